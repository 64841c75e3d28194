-- A core's turn that sends nothing to other cores or home: an access, an eviction, or a message that it takes.
use Rattle.std.proofs.Common.{◌≡◌, ℕ, ◌<◌, ◌==◌, ◌&&◌, ◌||◌, false, length, refl, sym, ap, ◌∙◌}
use Rattle.std.proofs.Math.Bool.{or-false}
use Rattle.cache_table.specs.Law.{sends_data, sends_home, sends_inv_ack}
use Rattle.cache_table.specs.declared.row.CacheEvent.{CacheEvent}
use Rattle.cache_table.specs.declared.row.CacheEvent.TheVariants as cache_events
use Rattle.cache_table.specs.declared.row.CacheSends.{CacheSends}
use Rattle.cache_table.specs.declared.state.CopyState.{CopyState}
use Rattle.directory_table.specs.declared.state.DirEntry.{DirEntry}
use Rattle.protocol_coherence.specs.Line.{Line, Part}
use Rattle.protocol_coherence.specs.LineSteps.{part_after_row, after_turn, change_if, part_with_data, stands_ack}
use Rattle.protocol_coherence.specs.LineSteps.{look_after_take}
use Rattle.slice_core_cache.specs.declared.copy.CacheCopy.{CacheCopy}
use Rattle.slice_core_theory.proofs.Frame.{with_copy_at}
use Rattle.slice_core_theory.proofs.Places.{acks-with_core, acks_kept, acks_turned, parts_as, parts_turned}
use Rattle.slice_core_theory.proofs.Places.{with_part_at}
use Rattle.slice_core_theory.specs.Stands.{LineStands, PartStands}
use Rattle.slice_queues.specs.Line.{CoreChannels, LineChannels, core_at, with_core}

-- Nothing of the row leaves the core's own channels.
pub record IsQuiet (sent : CacheSends) : Type 0 where
  pub gives : sends_data sent ≡ false
  pub home : sends_home sent ≡ false
  pub acknowledges : sends_inv_ack sent ≡ false

-- The core owes what it owed.
acted_owes : (part : Part) (event : CacheEvent) (more : ℕ) (next : CopyState) (sent : CacheSends) (to : ℕ)
    → IsQuiet sent → stands_ack (part_after_row event more next sent part) to ≡ stands_ack part to
acted_owes part event more next sent to quiet =
    ap (λ b. b && part.owes_to == to)
    (ap (λ b. (look_after_take event part.look).sent || b) quiet.acknowledges
    ∙ or-false (look_after_take event part.look).sent ∙ kept event)
  where
    kept : (event : CacheEvent) → (look_after_take event part.look).sent ≡ part.look.sent
    kept (cache_events.Data n k) = refl
    kept (cache_events.DataE loads) = refl
    kept cache_events.Inv = refl
    kept cache_events.FwdGetS = refl
    kept cache_events.FwdGetM = refl
    kept cache_events.PutAck = refl
    kept cache_events.Load = refl
    kept cache_events.Write = refl
    kept cache_events.Eviction = refl
    kept (cache_events.InvAck n k) = refl

-- The line after such a turn, where the core's copy and channels are its part.
pub turn_stands : (cores : ℕ) (entry : DirEntry) (channels : LineChannels) (copy : ℕ → CacheCopy) (line : Line) (c : ℕ)
    (event : CacheEvent) (next : CopyState) (sent : CacheSends) (now : CacheCopy) (mail : CoreChannels)
    → c < length channels.cores → IsQuiet sent → mail.acks ≡ (core_at channels c).acks
    → PartStands now mail (part_after_row event 0 next sent (line.part c)) → LineStands cores entry channels copy line
    → LineStands cores entry (with_core channels c mail) (with_copy_at copy c now) (after_turn line c event next sent)
turn_stands cores entry channels copy line c event next sent now mail there quiet same here stands = record {
  entry_stands = record {
    directory = stands.entry_stands.directory;
    owner = stands.entry_stands.owner;
    sharers = stands.entry_stands.sharers;
  };
  home = stands.home ∙ sym (ap (λ b. b || line.home) quiet.home);
  part = parts_as cores (with_core channels c mail) (with_copy_at copy c now) turned
      (after_turn line c event next sent).part (λ x below. alone x)
      (parts_turned cores channels copy line.part c now mail change there here stands.part);
  acks = acks_kept cores channels (with_core channels c mail) line.part (after_turn line c event next sent).part
      (λ x. acks-with_core channels c x mail same)
      (λ to x below. ap (λ p. stands_ack p to) (alone x)
      ∙ acks_turned line.part c change (λ to. acted_owes (line.part c) event 0 next sent to quiet) to x)
      stands.acks;
}
  where
    change : Part → Part
    change = part_after_row event 0 next sent

    turned : ℕ → Part
    turned = with_part_at line.part c change

    alone : (x : ℕ) → (after_turn line c event next sent).part x ≡ turned x
    alone x = ap (λ b. change_if (b && x == (line.part c).names) part_with_data (turned x)) quiet.gives
