use Rattle.litmus_walk.proofs.walker.Walker.is_over.Goals as goal

pub returns-then-are_at_end : goal.returns-then-are_at_end
returns-then-are_at_end c =
    let ended = c.are_at_end.ensures.0 c.if-are_at_end.true in
    (λ quiet. (ended, c.is_quiet.ensures.0 quiet), λ both. c.is_quiet.ensures.1 both.1)
