use Rattle.slice_core.proofs.state.SliceState.build.Goals as goal

pub returns-clause-new : goal.returns-clause-new
returns-clause-new g c = rw c.in_ok-empty.ensures.bound at c.build_like.ensures.new
