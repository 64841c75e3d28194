use Rattle.program_run.proofs.FrontLemmas.{next-empty}
use Rattle.program_run.proofs.front.next_delivery.Goals as goal

pub returns-in-Idle-clause-next : goal.returns-in-Idle-clause-next
returns-in-Idle-clause-next c =
    next-empty c.args.state.now c.first_front.new.idle c.first_front.ensures.idle
    (rw c.in-Idle.is at c.first_front.ensures.front)

pub returns-in-Waits-clause-next : goal.returns-in-Waits-clause-next
returns-in-Waits-clause-next c =
    c.next_from.ensures c.first_front.new.idle c.first_front.ensures.idle (rw c.in-Waits.is at c.first_front.ensures.front)
