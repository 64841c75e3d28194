use Rattle.std.proofs.Common.{subst}
use Rattle.slice_lock.proofs.Bounded.{new-bounded}
use Rattle.slice_lock.specs.Booked.{AreBounded}
use Rattle.slice_lock.proofs.slice.Slice.build.Goals as goal

pub invariant_of-new : goal.invariant_of-new
invariant_of-new g c =
    let opened = c.in_ok-state in
    record {
      tied = opened.ensures.tied;
      bounded = subst (λ setup. AreBounded setup (g.F.MissFile.bound_by setup) opened.state.view) c.requires.setup
          (new-bounded c.args.config.now _ c.args.slice opened.state opened.ensures.state);
    }
