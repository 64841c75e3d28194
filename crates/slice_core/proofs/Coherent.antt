-- What the protocol gives a sound slice: one writer or only readers, and a row and room for each message.
use Rattle.std.proofs.Common.{◌≡◌, ◌≢◌, ◌+◌, ◌%◌, ◌<◌, ℕ, Option, Some, None, arith, refl, sym, ap, ◌∙◌}
use Rattle.address_map.specs.Locator.{line_at, local_at}
use Rattle.address_map.specs.Place.{line_of as line_of_word}
use Rattle.address_map.specs.declared.address.Local.{Local}
use Rattle.address_map.specs.declared.address.WordAddr.{WordAddr}
use Rattle.slice_answer.specs.declared.answer.Cell.{Cell}
use Rattle.slice_answer.specs.declared.answer.Delivered.{Delivered}
use Rattle.slice_core_theory.proofs.KeptByCalls.{located}
use Rattle.slice_core_theory.specs.Whole.{IsAddressed, IsWhole}
use Rattle.slice_core_theory.proofs.Bounded as bounds
use Rattle.slice_core_theory.proofs.Consequences.{one_writer}
use Rattle.slice_core_theory.proofs.Unbroken.{whole_is_unbroken}
use Rattle.slice_core_theory.specs.Coherent.{HasBoundedChannels, HasOneWriter, NothingIsBroken}
use Rattle.slice_core_spec.specs.Calls.{PartsView, AfterDeliverNext, AfterDelivery, AfterPlan, local_in}
use Rattle.slice_core_spec.specs.Plan.{plan_of, planned_in}
use Rattle.slice_core_spec.specs.View.{IsQuiet, first_word}
use Rattle.slice_core.proofs.AccountsCan.{can-deliver}
use Rattle.slice_core.proofs.AccountsFacts as facts
use Rattle.slice_core.specs.Facts.{Holds, IsReached, IsNotBroken, IsNotBrokenNext, ShowsLast, ShowsWord}
use Rattle.slice_core_theory.proofs.BlocksAccesses.{word_of_line}
use Rattle.slice_core_theory.proofs.BlocksCalls.{line_located}
use Rattle.slice_core_theory.proofs.Current.{newest, reached_without}
use Rattle.slice_core_theory.proofs.QuietNewest.{quiet_newest}
use Rattle.slice_log.specs.Log.{initially, value}
use Rattle.slice_core.specs.Sound.{IsSound}
use Rattle.slice_queues.specs.Pick.{channel_of, line_of}
use Rattle.slice_queues.specs.declared.channel.Channel.{Channel}
use Rattle.slice_queues.specs.declared.channel.Class.{Class}
use Rattle.slice_queues.specs.declared.channel.Pick.{Pick}
use Rattle.slice_answer.specs.declared.answer.Delivery.TheVariants as deliveries
use Rattle.slice_answer.specs.declared.answer.Delivery.{Delivery}
use Rattle.slice_core_spec.specs.declared.transition.Transition.{Transition}

-- What a sound slice is at its outside.
pub whole : (p : PartsView) → IsSound p → IsWhole p.view
whole p sound = record {
  shaped = sound.counted.shaped;
  few = sound.counted.cores;
  kept = sound.links.kept;
  own = sound.links.own;
}

-- Each line is one of the machine's, and each target names a word of its line.
pub addressed : (p : PartsView) → IsSound p → IsAddressed p.view
addressed p sound = record { machine = sound.counted.machine; performable = (can-deliver p sound).performable }

-- One core may write a line and no other may read it, or none may write it.
pub coherent : (p : PartsView) → IsSound p → HasOneWriter p.view
coherent p sound = one_writer p.view sound.counted.cores (reached_without p.view sound.faithful.reached)

-- Each message has a row and room, and comes in time.
pub unbroken : (p : PartsView) → IsSound p → NothingIsBroken p.view
unbroken p sound =
    whole_is_unbroken p.view (whole p sound) sound.counted.some_core (reached_without p.view sound.faithful.reached)

-- No channel has more messages than it takes.
pub bounded : (p : PartsView) → IsSound p → HasBoundedChannels p.view
bounded p sound =
    bounds.bounded p.view (whole p sound) sound.counted.some_core (reached_without p.view sound.faithful.reached)

-- It is a slice to which the theorems apply.
is_reached : (p : PartsView) → IsSound p → IsReached p.view
unfolding IsReached
is_reached p sound = record {
  some_core = sound.counted.some_core;
  whole = whole p sound;
  addressed = addressed p sound;
  accounted = record { machine = sound.counted.machine; accounts = sound.accounts.accounts };
  lines = sound.faithful.reached;
}

-- All that callers may rely on.
pub holds : (p : PartsView) → IsSound p → Holds p
holds p sound = record {
  standing = facts.standing p sound;
  tags = facts.tags p sound;
  registers = facts.registers p sound;
  ordered = facts.ordered p sound;
  legal = sound.faithful.legal;
  one_writer = coherent p sound;
  newest = newest p.view sound.counted.some_core sound.counted.cores sound.faithful.reached;
  unbroken = unbroken p sound;
  bounded = bounded p sound;
  counted = facts.counted p sound;
  reached = is_reached p sound;
}

-- ---- a quiet slice

-- What a quiet slice shows of a word is the word's value after the whole log.
pub shows_last : (p : PartsView) → IsSound p → IsQuiet p.view → (word : WordAddr) (place : Option Local) (shown : ℕ)
    → local_at p.view.lines (line_of_word word).0 ≡ place → ShowsWord p.view word place shown
    → ShowsLast p.view word place shown
shows_last p sound quiet word None shown is shows = tt
shows_last p sound quiet word (Some local) shown is shows =
    let v = p.view in
    let newest =
    quiet_newest v (whole p sound) sound.counted.some_core
    (λ core local known inside. sound.links.waits core local known) sound.faithful.reached quiet local
    (located v.lines (line_of_word word).0 local is) in
    let below : word.0 % 8 < 8 = omega arith in
    let place : word.0 ≡ first_word v local + word.0 % 8 =
    word_of_line word.0 (line_at v.lines local).0 (line_located v.lines (line_of_word word).0 local is) in
    shows ∙ newest.words (word.0 % 8) below
    ∙ ap (λ w. value (initially v.init w) v.log w) (sym place)

-- ---- answers

planned : (plan : Delivery Transition) (old : PartsView) (local : Local) (channel : Channel) (answer : Delivered) (new : PartsView)
    → ((cell : Cell) → plan ≢ deliveries.Broken cell) → AfterPlan plan old local channel answer new → IsNotBroken answer
planned deliveries.Nothing old local channel answer new fine after = rw after.0 tt
planned deliveries.Blocked old local channel answer new fine after = rw after.0 tt
planned (deliveries.Broken cell) old local channel answer new fine after = absurd (fine cell refl)
planned (deliveries.Moved step) old local channel answer new fine after = rw after.0 tt

module _ (old : PartsView) (sound : IsSound old) (new : PartsView) where
  -- what a delivery returns and leaves, by the line's place
  abbrev by_line : Pick → Delivered → Option Local → Type 0
  by_line pick answer place =
      AfterPlan (planned_in old.view place (channel_of pick)) old (local_in place) (channel_of pick) answer new

  placed : (pick : Pick) (answer : Delivered) (place : Option Local) → local_at old.view.lines (line_of pick).0 ≡ place
      → by_line pick answer place → IsNotBroken answer
  placed pick answer None is after = rw after.0 tt
  placed pick answer (Some local) is after =
      planned (plan_of old.view local (channel_of pick)) old local (channel_of pick) answer new
      (λ cell. unbroken old sound local (channel_of pick) cell (located old.view.lines (line_of pick).0 local is)) after

  -- No delivery of a chosen message is broken.
  pub unbroken_delivery : (pick : Pick) (answer : Delivered) → AfterDelivery old pick answer new → IsNotBroken answer
  unbroken_delivery pick answer after = placed pick answer (local_at old.view.lines (line_of pick).0) refl after

  -- Nor is one of the next message of a class.
  pub unbroken_next : (class : Class) (answer : Delivery Pick) → AfterDeliverNext old class answer new
      → IsNotBrokenNext answer
  unbroken_next class (deliveries.Moved pick) after = tt
  unbroken_next class deliveries.Nothing after = tt
  unbroken_next class deliveries.Blocked after = tt
  unbroken_next class (deliveries.Broken cell) after =
      let some = after.found.1 in absurd (unbroken old sound some.0 some.1 cell some.2 some.4)
