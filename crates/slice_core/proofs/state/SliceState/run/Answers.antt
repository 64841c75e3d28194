use Rattle.std.proofs.Common.{◌∙◌, refl, subst}
use Rattle.std.proofs.lemmas.List.Elements.{All-nil}
use Rattle.slice_core.proofs.Coherent.{holds}
use Rattle.slice_core.proofs.Runs.{no_run, run_more, runs, unbroken_more}
use Rattle.slice_core.proofs.SameSlice.{same-is, same-then}
use Rattle.slice_core.proofs.state.SliceState.run.Goals as goal
use Rattle.slice_core.specs.Facts.{Holds}
use Rattle.slice_core.specs.Run.{IsUnbroken}

pub loop-place-init : goal.loop-place-init
loop-place-init g c =
    let old = c.args.self.now in
    record { same = same-is old old refl; run = refl; machine = no_run old; unbroken = All-nil IsUnbroken }

pub loop-place-preserved : goal.loop-place-preserved
loop-place-preserved g c =
    let before = c.loop-place in
    let machine =
    run_more c.args.self.now c.args.calls.now before.answers before.self before.place _ c.call.result c.call.new.self
    c.loop-place-test.true (before.auto.answers ∙ c.requires.places) before.invariant.machine c.call.ensures.machine in
    record {
      same = same-then c.args.self.now before.self c.call.new.self before.invariant.same c.call.ensures.same;
      run = runs c.args.self.now _ _ c.call.new.self machine;
      machine = machine;
      unbroken =
          unbroken_more c.args.calls.now before.answers before.place c.call.result c.loop-place-test.true
          (before.auto.answers ∙ c.requires.places) before.invariant.unbroken c.call.ensures.unbroken;
    }

pub returns-clause-holds : goal.returns-clause-holds
returns-clause-holds g c = subst Holds c.self.view_is (holds c.self.inside.parts c.self.invariant)
