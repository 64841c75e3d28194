use Rattle.litmus_text.proofs.CommandLemmas.{unnamed_fault}
use Rattle.litmus_text.proofs.parse.parse_command.Goals as goal

pub returns-in_default-named-clause-fault : goal.returns-in_default-named-clause-fault
returns-in_default-named-clause-fault c =
    rw c.in-Some.ensures.cases.0 (unnamed_fault _ _ _ c.in_default-named.ensures.none)

pub returns-in-Machine-clause-fault : goal.returns-in-Machine-clause-fault
returns-in-Machine-clause-fault c =
    rw (c.in-Some.ensures.cases.0, c.in-Some-named.ensures.found, c.in-Machine.is)
    (c.parse_machine.ensures c.args.config.now).fault

pub returns-in-Pump-clause-fault : goal.returns-in-Pump-clause-fault
returns-in-Pump-clause-fault c =
    rw (c.in-Some.ensures.cases.0, c.in-Some-named.ensures.found, c.in-Pump.is)
    (c.parse_pump.ensures c.args.config.now).fault
