use Rattle.std.proofs.Common.{sym}
use Rattle.program_run.proofs.WaitLemmas.{a_waiting_program_asks_nothing}
use Rattle.program_run.proofs.moves.may_ask.Goals as goal

pub returns-then-has_to_wait-clause-may : goal.returns-then-has_to_wait-clause-may
returns-then-has_to_wait-clause-may c =
    sym (a_waiting_program_asks_nothing c.args.machine.now.config c.args.programs.now c.args.machine.now.slices.items
    c.args.places.now c.args.number (c.has_to_wait.ensures c.if-has_to_wait.true))
