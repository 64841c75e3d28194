use Rattle.std.proofs.Common.{sym, subst}
use Rattle.std.specs.Prelude.{IsTrue}
use Rattle.slice_core_spec.specs.Calls.{PartsView}
use Rattle.slice_core_spec.specs.View.{IsQuiet}
use Rattle.litmus_script.proofs.MachineLemmas.{each_more}
use Rattle.litmus_script.proofs.machine.Machine.is_quiet.Goals as goal

pub loop-state-preserved : goal.loop-state-preserved
loop-state-preserved c =
    let here = rw c.deref-state-items.ensures.value at c.state-item.is in
    let within = rw c.deref-state-items.ensures.value at c.loop-state-test.true in
    each_more (λ (p : PartsView). IsQuiet p.view) c.args.self.now.slices.items c.loop-state.state-index
    c.state-item.result here
    within c.loop-state.invariant (c.is_quiet.ensures.0 c.if-not-is_quiet.false)

pub returns-then-not-is_quiet : goal.returns-then-not-is_quiet
returns-then-not-is_quiet c =
    let here = rw c.deref-state-items.ensures.value at c.state-item.is in
    let within = rw c.deref-state-items.ensures.value at c.loop-state-test.true in (
      λ no. (cc),
      λ all.
          let quiet = all c.loop-state.state-index c.state-item.result within in
          let is : IsTrue c.is_quiet.result =
          c.is_quiet.ensures.1 (subst (λ (p : PartsView). IsQuiet p.view) (sym here) quiet) in
          cc,
    )
