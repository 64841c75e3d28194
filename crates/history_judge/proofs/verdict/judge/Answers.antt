use Rattle.history_judge.proofs.verdict.judge.Goals as goal

pub returns-then-branch : goal.returns-then-branch
returns-then-branch c =
    rw c.deref.ensures.value at (c.in_ok-is_order-in-Coherent.ensures.0 c.if-branch.true)

pub returns-then-branch-2 : goal.returns-then-branch-2
returns-then-branch-2 c = c.in_ok-is_refuted-in-Incoherent.ensures c.if-branch-2.true
