-- What a step of a page doesn't give is as it was.
use Rattle.std.proofs.Common.{◌≡◌, ℕ, ◌+◌, ◌*◌, ◌/◌, ◌%◌, ◌<◌, Bool, true, false, if◌then◌else◌, List, length, Option}
use Rattle.std.proofs.Common.{Some, None, Result, ⊎_elim, inl, inr, refl, sym, ap, subst, arith}
use Rattle.std.specs.Prelude.{◌==◌, ◌&&◌, nat_le, nat_lt}
use Rattle.std.proofs.lemmas.Bool.{and_parts, eqb-true}
use Rattle.std.proofs.lemmas.Bool.Decides.{nat_tests}
use Rattle.std.proofs.lemmas.Nat.{div-add-mod'}
use Rattle.address_map.specs.Locator.{Lines, line_at, local_at}
use Rattle.address_map.specs.Place.{line_of}
use Rattle.address_map.specs.declared.address.CoreId.{CoreId}
use Rattle.address_map.specs.declared.address.LineAddr.{LineAddr}
use Rattle.address_map.specs.declared.address.Local.{Local}
use Rattle.address_map.specs.declared.config.Config.{Config}
use Rattle.address_map.specs.declared.request.Request.{Request}
use Rattle.litmus_script.specs.Machine.{OneSlice}
use Rattle.litmus_text.specs.Command.{IsInRange}
use Rattle.litmus_text.specs.declared.command.Command.{Command}
use Rattle.litmus_text.specs.declared.command.Command.TheVariants as commands
use Rattle.litmus_text.specs.declared.look.Look.TheVariants as looks
use Rattle.script_explained.specs.Step.{IsShown, IsStep, MakesNext, MakesStep, command_of, is_look}
use Rattle.script_explained.specs.declared.step.DeliveryStep.{DeliveryStep}
use Rattle.script_explained.specs.declared.step.Step.{Step}
use Rattle.script_explained.specs.declared.step.Step.TheVariants as steps
use Rattle.script_page.proofs.RestCalls.{delivery_leaves, evict_leaves, hand_leaves, issue_leaves}
use Rattle.script_page.proofs.RestSteps.{Leaves}
use Rattle.script_page.specs.Core.{lacks}
use Rattle.script_page.specs.Rest.{AreSlices, Gives, KeepsRest, LeavesRest}
use Rattle.script_page.specs.Scope.{scope_of, taker_of}
use Rattle.script_page.specs.declared.scope.Scope.{Scope}
use Rattle.slice_answer.specs.declared.answer.Delivered.{Delivered}
use Rattle.slice_answer.specs.declared.answer.Delivered.TheVariants as delivered
use Rattle.slice_answer.specs.declared.answer.Delivery.TheVariants as deliveries
use Rattle.slice_answer.specs.declared.answer.Evicted.{Evicted}
use Rattle.slice_answer.specs.declared.answer.Issue.{Issue}
use Rattle.slice_answer.specs.declared.answer.Refused.{Refused}
use Rattle.slice_core.proofs.SameSlice.{same-issue}
use Rattle.slice_core.specs.Facts.{Holds}
use Rattle.slice_core_theory.specs.Whole.{IsWhole}
use Rattle.slice_core_spec.specs.Calls.{PartsView, AfterDelivery, AfterEvict, AfterHand, AfterIssue}
use Rattle.slice_core_spec.specs.View.{View}
use Rattle.slice_log.specs.declared.entry.Numbered.{Numbered}
use Rattle.slice_queues.specs.Pick.{line_of as line_of_pick}
use Rattle.slice_queues.specs.declared.channel.Pick.{Pick}

-- ---- places and lines

-- the line at the place of a line is that line
place_named : (own : Lines) (line : LineAddr) (local : Local) → local_at own line.0 ≡ Some local
    → Some line ≡ Some (line_at own local)
place_named own line local =
    by (line.0 % own.slices == own.slice && nat_lt (line.0 / own.slices) own.lines)
    (record { 0 = line.0 / own.slices })
    (λ mine.
    let at : line.0 % own.slices ≡ own.slice =
    eqb-true (line.0 % own.slices) own.slice
    (and_parts (line.0 % own.slices == own.slice) (nat_lt (line.0 / own.slices) own.lines) mine).0 in
    let whole : line.0 ≡ line.0 / own.slices * own.slices + own.slice =
    omega (arith, at, div-add-mod' line.0 own.slices) in
    ap (λ n. Some (record { 0 = n })) whole)
  where
    by : (mine : Bool) (here : Local) → (mine ≡ true → Some line ≡ Some (line_at own here))
        → (if mine then Some here else None) ≡ Some local → Some line ≡ Some (line_at own local)
    by true here names is =
        let same : here ≡ local = cc in subst (λ (l : Local). Some line ≡ Some (line_at own l)) same (names refl)
    by false here names is = absurd (cc is)

not_less : (m n : ℕ) → n < m → nat_le m n ≡ false
not_less m n below = grind (arith, nat_tests)

-- what leaves other places as they were leaves what isn't given
rest_of : (scope : Scope) (At : ℕ → Type 0) (old new : View) → Leaves At scope.core old new
    → ((l : Local) → At l.0 → Gives scope new (line_at old.lines l)) → LeavesRest scope old new
rest_of scope At old new one given = record {
  entries = λ l apart. one.entries l (λ at. apart (given l at));
  channels = λ l apart. one.channels l (λ at. apart (given l at));
  copies = λ c l apart. one.copies c l (λ at. apart (given l at));
  targets = λ c l apart. one.targets c l (λ at. apart (given l at));
  cores = one.cores;
}

-- ---- the calls

issue_rest : (slice : ℕ) (old : PartsView) (core : CoreId) (request : Request) (answer : Result Issue Refused)
    (new : PartsView) → IsWhole old.view → core.0 < length old.view.caches
    → AfterIssue old core request answer new
    → LeavesRest (record { slice = slice; line = Some (line_of request.word); core = Some core; evicts = true })
    old.view new.view
issue_rest slice old core request answer new whole known after =
    let scope : Scope = record {
      slice = slice;
      line = Some (line_of request.word);
      core = Some core;
      evicts = true;
    } in
    let same = same-issue old core request answer new after in
    let there : lacks new.view core ≡ false =
    not_less (length new.view.caches) core.0 (subst (λ n. core.0 < n) (sym same.cores) known) in
    rest_of scope _ old.view new.view (issue_leaves old core request answer new whole known after)
    (λ l. ⊎_elim (λ found. inl (place_named old.view.lines (line_of request.word) l found))
    (λ last. inr (rw there last)))

evict_rest : (slice : ℕ) (old : PartsView) (core : CoreId) (line : LineAddr) (answer : Evicted) (new : PartsView)
    → IsWhole old.view → core.0 < length old.view.caches → AfterEvict old core line answer new
    → LeavesRest (record { slice = slice; line = Some line; core = Some core; evicts = false }) old.view new.view
evict_rest slice old core line answer new whole known after =
    rest_of (record { slice = slice; line = Some line; core = Some core; evicts = false }) _ old.view new.view
    (evict_leaves old core line answer new whole known after)
    (λ l found. inl (place_named old.view.lines line l found))

delivery_rest : (slice : ℕ) (old : PartsView) (pick : Pick) (answer : Delivered) (new : PartsView)
    → IsWhole old.view → AfterDelivery old pick answer new
    → LeavesRest (record { slice = slice; line = Some (line_of_pick pick); core = taker_of pick; evicts = false })
    old.view new.view
delivery_rest slice old pick answer new whole after =
    rest_of (record { slice = slice; line = Some (line_of_pick pick); core = taker_of pick; evicts = false }) _
    old.view new.view (delivery_leaves old pick answer new whole after)
    (λ l found. inl (place_named old.view.lines (line_of_pick pick) l found))

hand_rest : (slice : ℕ) (old : PartsView) (core : CoreId) (answer : Option Numbered) (new : PartsView)
    → core.0 < length old.view.caches → AfterHand old core answer new
    → LeavesRest (record { slice = slice; line = None; core = Some core; evicts = false }) old.view new.view
hand_rest slice old core answer new known after =
    rest_of (record { slice = slice; line = None; core = Some core; evicts = false }) (λ n. ⊥) old.view new.view
    (hand_leaves (λ n. ⊥) old core answer new known after) (λ l at. absurd at)

-- ---- a machine

-- a slice as its calls leave it is whole, and knows a core of the machine
whole_of : (p : PartsView) → Holds p → IsWhole p.view
unfolding Rattle.slice_core.specs.Facts.IsReached
whole_of p holds = holds.reached.whole

same_rest : (scope : Option Scope) (old new : List PartsView) → new ≡ old → KeepsRest scope old new
same_rest None old new same = same
same_rest (Some scope) old new same = inl same

-- what only shows something leaves the machine as it was
look_same : (config : Config) (command : Command) (old new : List PartsView) (text : List ℕ)
    → IsShown (is_look command) config command old new text → new ≡ old
look_same config (commands.Look (looks.State line)) old new text shown = shown.printed.0
look_same config (commands.Look (looks.Log slice)) old new text shown = shown.printed.0
look_same config (commands.Look (looks.Machine look)) old new text shown = shown.printed.0
look_same config (commands.Issue core request) old new text shown = absurd shown
look_same config (commands.Evict core line) old new text shown = absurd shown
look_same config (commands.Deliver pick) old new text shown = absurd shown
look_same config (commands.Hand core slice) old new text shown = absurd shown
look_same config (commands.Look (looks.Word word)) old new text shown = absurd shown
look_same config (commands.Pump calls) old new text shown = shown.0

step_rest : (config : Config) (step : Step) (old new : List PartsView) → AreSlices config old
    → IsInRange config (command_of step) → IsStep config step old new
    → KeepsRest (scope_of config (command_of step)) old new
step_rest config (steps.Issue access) old new slices known one =
    let is = slices _ one.before one.found in
    inr (record {
      before = one.before;
      after = one.after;
      found = one.found;
      goes = issue_rest _ one.before access.core access.decided.request _ one.after (whole_of one.before is.0)
          (subst (λ n. access.core.0 < n) (sym is.1) known) one.goes.answered.answers.made;
      others = one.others;
    })
step_rest config (steps.Evict eviction) old new slices known one =
    let is = slices _ one.before one.found in
    inr (record {
      before = one.before;
      after = one.after;
      found = one.found;
      goes = evict_rest _ one.before eviction.core eviction.line _ one.after (whole_of one.before is.0)
          (subst (λ n. eviction.core.0 < n) (sym is.1) known.0) one.goes.answered.made;
      others = one.others;
    })
step_rest config (steps.Deliver delivery) old new slices known one =
    let is = slices _ one.before one.found in
    inr (record {
      before = one.before;
      after = one.after;
      found = one.found;
      goes = delivery_rest _ one.before delivery.pick _ one.after (whole_of one.before is.0) one.goes.answered.made;
      others = one.others;
    })
step_rest config (steps.Hand hand) old new slices known one =
    let is = slices _ one.before one.found in
    inr (record {
      before = one.before;
      after = one.after;
      found = one.found;
      goes = hand_rest _ one.before hand.core _ one.after (subst (λ n. hand.core.0 < n) (sym is.1) known.0)
          one.goes.made;
      others = one.others;
    })
step_rest config (steps.Word word) old new slices known same = inl same.0
step_rest config (steps.Pump calls pumped) old new slices known same = same
step_rest config (steps.Show command text) old new slices known shown =
    same_rest (scope_of config command) old new (look_same config command old new text.items shown)

pub command_rest : (config : Config) (command : Command) (old new : List PartsView) (step : Step)
    → AreSlices config old → IsInRange config command → MakesStep config command old new step
    → KeepsRest (scope_of config command) old new
command_rest config command old new step slices known made =
    subst (λ (c : Command). KeepsRest (scope_of config c) old new) made.of_command
    (step_rest config step old new slices
    (subst (λ (c : Command). IsInRange config c) (sym made.of_command) known) made.made)

-- a delivery of a pump
pub delivered_rest : (config : Config) (slice : ℕ) (pick : Pick) (scope : Scope) (old new : List PartsView)
    (made : Option DeliveryStep) → AreSlices config old
    → OneSlice slice (MakesNext slice (deliveries.Moved pick) made) old new
    → scope_of config (commands.Deliver pick) ≡ Some scope
    → OneSlice slice (λ before after. LeavesRest scope before.view after.view) old new
delivered_rest config slice pick scope old new step slices told is =
    let whole = whole_of told.before (slices _ told.before told.found).0 in
    let made = told.goes.answered.made in
    let rest = delivery_rest _ told.before pick delivered.Moved made.done whole made.made in
    let at : scope ≡ record {
      slice = (line_of_pick pick).0 % config.slices;
      line = Some (line_of_pick pick);
      core = taker_of pick;
      evicts = false;
    } = cc (is) in
    record {
      before = told.before;
      after = told.after;
      found = told.found;
      goes = subst (λ (s : Scope). LeavesRest s told.before.view told.after.view) (sym at)
          (subst (λ (v : View). LeavesRest _ told.before.view v) (sym (ap (λ (p : PartsView). p.view) made.turns)) rest);
      others = told.others;
    }
