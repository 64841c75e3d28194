-- What an observer has seen goes on.
use Rattle.std.proofs.Common.{◌≡◌, ℕ, ◌*◌, ◌<◌, ◌&&◌, nat_lt, Bool, true, false, List, [], ◌∷◌, ◌++◌, if◌then◌else◌}
use Rattle.std.proofs.Common.{refl, sym, subst, ◌∙◌, inl, inr}
use Rattle.std.specs.Bool.{Decides}
use Rattle.std.proofs.lemmas.Bool.{cases_Bool}
use Rattle.std.specs.Prelude.{IsTrue, ◌↔◌}
use Rattle.std.proofs.lemmas.Bool.Decides.{Decides-and, Decides-ltb, same_from_decides}
use Rattle.address_map.specs.Place.{line_of}
use Rattle.address_map.specs.declared.address.CoreId.{CoreId}
use Rattle.address_map.specs.declared.address.LineAddr.{LineAddr}
use Rattle.address_map.specs.declared.address.WordAddr.{WordAddr}
use Rattle.address_map.specs.declared.config.Config.{Config}
use Rattle.program_run.specs.Cause.{cause_of, fate_of}
use Rattle.program_run.specs.History.{History, HasSeen, after_miss, after_count, has_line, has_place, is_held}
use Rattle.program_run.specs.History.{after_event}
use Rattle.program_run.specs.Memory.{HasPlace, Recalls}
use Rattle.program_run.specs.Tally.{TallyView, tally_after, tally_with}
use Rattle.program_run.specs.declared.cause.Cause.{Cause}
use Rattle.program_run.specs.declared.cause.Event.{Event}
use Rattle.program_run.specs.declared.cause.Event.TheVariants as events
use Rattle.program_run.specs.declared.cause.Fate.{Fate}
use Rattle.program_run.specs.declared.cause.Fate.TheVariants as fates
use Rattle.program_run.specs.declared.observer.Observer.{Observer}
use Rattle.program_run.specs.declared.tally.Counted.{Counted}
use Rattle.program_run.specs.declared.tally.Counted.TheVariants as counted_kinds

-- one more is counted after the others
pub counted_more : (tally : TallyView) (all : List Counted) (what : Counted)
    → tally_after tally (all ++ what ∷ []) ≡ tally_with (tally_after tally all) what
counted_more tally [] what = refl
counted_more tally (first ∷ all) what = counted_more (tally_with tally first) all what

-- the test says whether there is a place
place-decides : (lines : ℕ) (event : Event) → Decides (has_place lines event) (HasPlace lines event)
place-decides lines (events.Took core line) =
    Decides-and (nat_lt core.0 64) (nat_lt line.0 lines) (Decides-ltb core.0 64) (Decides-ltb line.0 lines)
place-decides lines (events.GaveUp core line) =
    Decides-and (nat_lt core.0 64) (nat_lt line.0 lines) (Decides-ltb core.0 64) (Decides-ltb line.0 lines)
place-decides lines (events.Lost core line) =
    Decides-and (nat_lt core.0 64) (nat_lt line.0 lines) (Decides-ltb core.0 64) (Decides-ltb line.0 lines)
place-decides lines (events.Wrote core word) =
    Decides-and (nat_lt core.0 64) (nat_lt word.0 (lines * 8)) (Decides-ltb core.0 64) (Decides-ltb word.0 (lines * 8))

-- the test says whether a copy is held
pub held-decides : (fate : Fate) → Decides (is_held fate) (fate ≡ fates.Held)
held-decides fates.Held = (λ (same : true ≡ true). refl, λ (same : fates.Held ≡ fates.Held). refl)
held-decides fates.Never = (λ (other : false ≡ true). cc, λ (other : fates.Never ≡ fates.Held). cc)
held-decides fates.Replaced = (λ (other : false ≡ true). cc, λ (other : fates.Replaced ≡ fates.Held). cc)
held-decides fates.Lost = (λ (other : false ≡ true). cc, λ (other : fates.Lost ≡ fates.Held). cc)

-- an event is noted where there is a place for it
pub noted_seen : (config : Config) (history : History) (event : Event) (old new : Observer)
    → new.tally ≡ old.tally → new.memory.lines ≡ old.memory.lines
    → (HasPlace old.memory.lines event → (before : List Event) → Recalls before old.memory
    → Recalls (event ∷ before) new.memory)
    → ((HasPlace old.memory.lines event → ⊥) → new.memory ≡ old.memory)
    → HasSeen config history old → HasSeen config (after_event config.lines event history) new
noted_seen config history event old new tally lines there nowhere seen =
    let place : Decides (has_place config.lines event) (HasPlace config.lines event) = place-decides config.lines
    event in
    elim (cases_Bool (has_place config.lines event)) [
      | inl passes ↦
          let here : HasPlace old.memory.lines event = subst (λ n. HasPlace n event) (sym seen.lines)
          (place.0 passes) in
          subst
          (λ b. HasSeen config (if b then record history { happened = event ∷ history.happened } else history) new)
          (sym passes)
          (record {
            lines = lines ∙ seen.lines;
            recalls = there here history.happened seen.recalls;
            counts = tally ∙
                seen.counts;
          })
      | inr fails ↦
          let absent : HasPlace old.memory.lines event → ⊥ = λ here.
          let found : has_place config.lines event ≡ true = place.1 (subst (λ n. HasPlace n event) seen.lines here) in
          cc in
          subst
          (λ b. HasSeen config (if b then record history { happened = event ∷ history.happened } else history) new)
          (sym fails)
          (record {
            lines = lines ∙ seen.lines;
            recalls = subst (Recalls history.happened) (sym (nowhere absent)) seen.recalls;
            counts = tally ∙ seen.counts;
          })
    ]

-- what is seen where a test passes, and where it fails
pub when_true : (config : Config) (test : Bool) (one other : History) (observer : Observer) → test ≡ true
    → HasSeen config one observer → HasSeen config (if test then one else other) observer
when_true config test one other observer is seen =
    subst (λ b. HasSeen config (if b then one else other) observer) (sym is) seen

pub when_false : (config : Config) (test : Bool) (one other : History) (observer : Observer) → test ≡ false
    → HasSeen config other observer → HasSeen config (if test then one else other) observer
when_false config test one other observer is seen =
    subst (λ b. HasSeen config (if b then one else other) observer) (sym is) seen

-- what the memory says of a line, the history says
pub line_seen : (config : Config) (history : History) (core : CoreId) (line : LineAddr) (observer : Observer)
    (said : Bool)
    → (core.0 < 64 → line.0 < observer.memory.lines → (before : List Event) → Recalls before observer.memory
    → IsTrue said ↔ fate_of core.0 line.0 before ≡ fates.Held)
    → (IsTrue said → (core.0 < 64) × (line.0 < observer.memory.lines))
    → HasSeen config history observer → said ≡ has_line config.lines core line history
line_seen config history core line observer said held place seen =
    let fate : Fate = fate_of core.0 line.0 history.happened in
    let here : line.0 < config.lines → line.0 < observer.memory.lines = λ below. subst (λ n. line.0 < n)
    (sym seen.lines) below in
    let there : line.0 < observer.memory.lines → line.0 < config.lines = λ below. subst (λ n. line.0 < n) seen.lines
    below in
    same_from_decides said (has_line config.lines core line history) (
      λ has.
          let at = place has in
          ((at.0, there at.1), (held at.0 at.1 history.happened seen.recalls).0 has),
      λ is. (held is.0.0 (here is.0.1) history.happened seen.recalls).1 is.1,
    )
    (Decides-and (nat_lt core.0 64 && nat_lt line.0 config.lines) (is_held fate)
    (Decides-and (nat_lt core.0 64) (nat_lt line.0 config.lines) (Decides-ltb core.0 64)
    (Decides-ltb line.0 config.lines))
    (held-decides fate))

-- whether there is a place for a word
pub word-decides : (lines : ℕ) (core : CoreId) (word : WordAddr)
    → Decides (nat_lt core.0 64 && nat_lt word.0 (lines * 8)) ((core.0 < 64) × (word.0 < lines * 8))
word-decides lines core word =
    Decides-and (nat_lt core.0 64) (nat_lt word.0 (lines * 8)) (Decides-ltb core.0 64) (Decides-ltb word.0 (lines * 8))

-- a miss with its cause is counted
pub miss_seen : (config : Config) (history : History) (core : CoreId) (word : WordAddr) (cause : Cause)
    (old new : Observer)
    → (core.0 < 64) × (word.0 < old.memory.lines * 8) → cause ≡ cause_of core.0 word.0 history.happened
    → HasSeen config history old
    → HasSeen config (after_count (counted_kinds.Miss core (line_of word) cause) history) new
    → HasSeen config (after_miss config.lines core word history) new
miss_seen config history core word cause old new place is before after =
    when_true config (nat_lt core.0 64 && nat_lt word.0 (config.lines * 8)) _ history new
    ((word-decides config.lines core word).1 (subst (λ n. (core.0 < 64) × (word.0 < n * 8)) before.lines place))
    (subst (λ (c : Cause). HasSeen config (after_count (counted_kinds.Miss core (line_of word) c) history) new) is
    after)

-- where there is no place for it there is no miss
pub no_miss_seen : (config : Config) (history : History) (core : CoreId) (word : WordAddr) (observer : Observer)
    → ((core.0 < 64) × (word.0 < observer.memory.lines * 8) → ⊥) → HasSeen config history observer
    → HasSeen config (after_miss config.lines core word history) observer
no_miss_seen config history core word observer nowhere seen =
    elim (cases_Bool (nat_lt core.0 64 && nat_lt word.0 (config.lines * 8))) [
      | inl passes ↦
          let place = (word-decides config.lines core word).0 passes in
          absurd (nowhere (subst (λ n. (core.0 < 64) × (word.0 < n * 8)) (sym seen.lines) place))
      | inr fails ↦ when_false config (nat_lt core.0 64 && nat_lt word.0 (config.lines * 8)) _ history observer fails
          seen
    ]
