use Rattle.litmus_test.specs.Text.{MayFollow}
use Rattle.litmus_test.proofs.test.LitmusTest.judge.Goals as goal

pub returns-in-Forbid-clause-refused : goal.returns-in-Forbid-clause-refused
unfolding MayFollow
returns-in-Forbid-clause-refused c =
    rw c.in-Forbid.is (rw c.as_slice.ensures.value at c.may_forbid.ensures.refused)
