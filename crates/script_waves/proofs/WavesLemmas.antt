-- The names of channels and the values of lines, in the pieces in which they are written, what is shown of a command, and
-- runs from the beginning.
use Rattle.std.proofs.Common.{◌≡◌, ◌≢◌, ℕ, List, [], ◌∷◌, ◌++◌, Option, Some, None, Result, Ok, Err, IsOk, OnOk, codes, drop}
use Rattle.std.proofs.Common.{refl, subst, ap, ap₂, append_assoc, ◌∙◌}
use Rattle.std.proofs.KnownBytes.{Appends-trans}
use Rattle.std.proofs.Output.{writes_in_calls_append, writes_in_calls_single}
use Rattle.std.specs.Io.KnownBytes.{Appends}
use Rattle.std.specs.Fmt.{WritesInCalls}
use Rattle.std.specs.List.{flat_map, slice_get}
use Rattle.address_map.specs.declared.address.LineAddr.{LineAddr}
use Rattle.address_map.specs.declared.address.Local.{Local}
use Rattle.address_map.specs.declared.config.Config.{Config}
use Rattle.litmus_script.specs.Play.{PlaysAll, PlaysUpTo}
use Rattle.litmus_text.specs.Command.{parts_of}
use Rattle.litmus_text.specs.declared.command.Command.{Command}
use Rattle.litmus_text.specs.declared.command.Command.TheVariants as commands
use Rattle.litmus_text.specs.declared.fault.TextFault.{TextFault}
use Rattle.litmus_text.specs.Line.{text_of_parts}
use Rattle.script_waves.specs.Named.{Names, line_named}
use Rattle.script_waves.specs.Values.{name_of_channel, names_of, text_behind, text_of_entry, text_of_mail}
use Rattle.script_waves.specs.Values.{text_of_place, text_of_states, text_of_total, text_of_waiting, total_of, waiting_of}
use Rattle.script_waves.specs.Waves.{IsShown, IsTick, Shown, ShowsNext, Ticks, next, shown_by, shown_first}
use Rattle.script_waves.specs.Waves.{text_of_tick, text_of_values}
use Rattle.script_waves.specs.declared.player.Waved.{Waved}
use Rattle.slice_answer.specs.declared.answer.Delivery.TheVariants as deliveries
use Rattle.slice_answer.specs.declared.answer.Delivery.{Delivery}
use Rattle.slice_core.specs.Facts.{AreWaitingAt, ShowsLine}
use Rattle.slice_core_spec.specs.Calls.{PartsView}
use Rattle.slice_core_spec.specs.View.{View}
use Rattle.slice_core_exec.specs.declared.line_view.LineView.{LineView}
use Rattle.slice_queues.specs.declared.channel.Channel.{Channel}
use Rattle.slice_queues.specs.declared.channel.Pick.{Pick}

on_ok_from : {A E P : Type 0} (r : Result A E) → (IsOk r → P) → OnOk r P
on_ok_from (Ok x) holds = holds refl
on_ok_from (Err e) holds = tt

-- ---- channels

module _ {W : Type 0} (took : W → List ℕ → W → Type 0) where
  -- the next name after another, and then those after it
  pub next_channel : (left : List Channel) (channel : Channel) → Some channel ≡ slice_get left 0 → (old mid new : W)
      → WritesInCalls took old (text_behind channel) mid
      → WritesInCalls took mid (flat_map text_behind (drop 1 left)) new
      → WritesInCalls took old (flat_map text_behind left) new
  next_channel [] channel first old mid new one rest = absurd (cc)
  next_channel (c ∷ more) channel first old mid new one rest =
      let is : channel ≡ c = cc (first) in
      writes_in_calls_append took old (text_behind c) mid _ new
      (subst (λ (d : Channel). WritesInCalls took old (text_behind d) mid) is one) rest

  -- the first name, and then those after it
  pub names_from : (all rest : List Channel) (channel : Channel) → Some channel ≡ slice_get all 0
      → rest ≡ drop 1 all → (old mid new : W)
      → WritesInCalls took old (name_of_channel channel) mid → WritesInCalls took mid (flat_map text_behind rest) new
      → WritesInCalls took old (names_of all) new
  names_from [] rest channel first left old mid new one more = absurd (cc)
  names_from (c ∷ cs) rest channel first left old mid new one more =
      let is : channel ≡ c = cc (first) in
      writes_in_calls_append took old (name_of_channel c) mid _ new
      (subst (λ (d : Channel). WritesInCalls took old (name_of_channel d) mid) is one)
      (subst (λ (xs : List Channel). WritesInCalls took mid (flat_map text_behind xs) new) left more)

  -- .. or a dash
  pub no_names : {A E : Type 0} (all : List Channel) (wrote : Result A E) (old new : W) → None ≡ slice_get all 0
      → (IsOk wrote → took old (codes "-") new) → OnOk wrote (WritesInCalls took old (names_of all) new)
  no_names [] wrote old new none ok = on_ok_from wrote (λ is. writes_in_calls_single took old _ new (ok is))
  no_names (c ∷ more) wrote old new none ok = absurd (cc)

-- ---- a line

-- what is shown of a line is what the slice has of it
pub shown_text : (v : View) (line : LineAddr) (local : Option Local) (view : LineView) → ShowsLine v local (Some view)
    → text_of_entry line view.dir ++ (text_of_states line 0 view.copies.items ++ text_of_mail v line local) ≡
    text_of_place v line local
shown_text v line None view shows = absurd (cc)
shown_text v line (Some local) view (given, is, dir, owner, sharers, home, copies) =
    let same : given ≡ view = cc in
    subst (λ (x : LineView). text_of_entry line x.dir
    ++ (text_of_states line 0 x.copies.items ++ text_of_mail v line (Some local))
    ≡ text_of_place v line (Some local)) same
    (rw (dir, copies) refl)

-- .. and so is what waits for it
pub mail_text : (v : View) (line : LineAddr) (local : Option Local) (waiting : List Channel) (total : ℕ)
    → total ≡ total_of (waiting_of v local) → AreWaitingAt v local waiting
    → text_of_waiting line waiting ++ text_of_total line total ≡ text_of_mail v line local
mail_text v line None waiting total counted waits = absurd waits
mail_text v line (Some local) waiting total counted waits =
    ap₂ (λ (all : List Channel) (n : ℕ). text_of_waiting line all ++ text_of_total line n) waits.0 counted

-- ---- a run

-- the time and the command, and then the values
pub told_behind : (time command values : List ℕ) (a b c : Option (List ℕ)) → Appends a b (time ++ command)
    → Appends b c values → Appends a c (time ++ (command ++ values))
told_behind time command values a b c first rest =
    subst (Appends a c) (append_assoc time command values) (Appends-trans a b c (time ++ command) _ first rest)

-- what is shown of a command doesn't depend on the slices before it
pub shown_from : (config other : Config) (line : List ℕ) (command : Command) (old mid new : Shown)
    (before middle after : Option (List ℕ)) → other ≡ config → mid.named ≡ old.named → mid.played ≡ old.played
    → mid.values ≡ old.values → middle ≡ before
    → IsShown other line command mid new middle after → IsShown config line command old new before after
shown_from config other line command old mid new before middle after is named played values out shown = record {
  names = subst (λ (k : Config). Names k (line_named command) old.named new.named) is
      (subst (λ (n : List LineAddr). Names other (line_named command) n new.named) named shown.names);
  counted = shown.counted ∙ ap next played;
  values = subst (λ (k : Config). new.values ≡ text_of_values k new.slices new.named) is shown.values;
  written = subst (λ (b : Option (List ℕ)). Appends b after (text_of_tick line new.played old.values new.values)) out
      (subst (λ (v : List ℕ). Appends middle after (text_of_tick line new.played v new.values)) values shown.written);
}

-- .. nor does what is shown of a pump's delivery
pub next_from : (config other : Config) (answer : Delivery Pick) (old mid new : Shown)
    (before middle after : Option (List ℕ)) → other ≡ config → mid.named ≡ old.named → mid.played ≡ old.played
    → mid.values ≡ old.values → middle ≡ before
    → ShowsNext other answer mid middle after new → ShowsNext config answer old before after new
next_from config other (deliveries.Moved pick) old mid new before middle after is named played values out shown =
    shown_from config other (text_of_parts (parts_of (commands.Deliver pick))) (commands.Deliver pick) old mid new
    before middle after is named played values out shown
next_from config other deliveries.Blocked old mid new before middle after is named played values out shown =
    (shown.0 ∙ out, shown.1 ∙ named, shown.2 ∙ played, shown.3 ∙ values)
next_from config other deliveries.Nothing old mid new before middle after is named played values out shown =
    (shown.0 ∙ out, shown.1 ∙ named, shown.2 ∙ played, shown.3 ∙ values)
next_from config other (deliveries.Broken cell) old mid new before middle after is named played values out shown =
    (shown.0 ∙ out, shown.1 ∙ named, shown.2 ∙ played, shown.3 ∙ values)

-- a command that is no pump takes one unit of time
pub one_tick : (config : Config) (line : List ℕ) (command : Command) (old new : Shown) (before after : Option (List ℕ))
    → ((calls : ℕ) → command ≢ commands.Pump calls)
    → IsTick config line command old new before after → Ticks config old line command before after new
one_tick config line (commands.Issue core request) old new before after other tick = tick
one_tick config line (commands.Evict core l) old new before after other tick = tick
one_tick config line (commands.Deliver pick) old new before after other tick = tick
one_tick config line (commands.Hand core slice) old new before after other tick = tick
one_tick config line (commands.Look look) old new before after other tick = tick
one_tick config line (commands.Pump calls) old new before after other tick = absurd (other calls refl)

module _ (config other : Config) (commands : List (ℕ × List (List ℕ))) (now : Shown) (start : List PartsView)
    (before after : Option (List ℕ)) (one : other ≡ config) (fresh : now ≡ shown_first start) where
  -- what was played from the beginning
  pub played_from : (end : Shown) → PlaysAll (Ticks config) other commands now end before after
      → PlaysAll (Ticks config) config commands (shown_first start) end before after
  played_from end played =
      subst (λ (s : Shown). PlaysAll (Ticks config) config commands s end before after) fresh
      (subst (λ (c : Config). PlaysAll (Ticks config) c commands now end before after) one played)

  -- .. up to a fault
  pub stopped_from : (fault : TextFault) → PlaysUpTo (Ticks config) other commands now before after fault
      → PlaysUpTo (Ticks config) config commands (shown_first start) before after fault
  stopped_from fault stopped =
      subst (λ (s : Shown). PlaysUpTo (Ticks config) config commands s before after fault) fresh
      (subst (λ (c : Config). PlaysUpTo (Ticks config) c commands now before after fault) one stopped)

-- a command that a player of this machine plays, by the configuration that it had first
pub ticks_by : (config : Config) (old new : Waved) (line : List ℕ) (command : Command)
    (before after : Option (List ℕ)) → old.machine.config ≡ config
    → (new.machine.config ≡ old.machine.config)
    × Ticks old.machine.config (shown_by old) line command before after (shown_by new)
    → (new.machine.config ≡ config) × Ticks config (shown_by old) line command before after (shown_by new)
ticks_by config old new line command before after same made = (
  made.0 ∙ same,
  subst (λ k. Ticks k (shown_by old) line command before after (shown_by new)) same made.1,
)
