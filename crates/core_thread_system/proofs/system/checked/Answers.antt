use Rattle.core_thread_system.proofs.Checked.{accepted, refused}
use Rattle.core_thread_system.proofs.system.checked.Goals as goal

pub returns-in-Ok-clause-accepted : goal.returns-in-Ok-clause-accepted
returns-in-Ok-clause-accepted c = accepted c.args.config c.in-Ok.checked c.in-Ok.ensures.value

pub returns-in-Err-clause-refused : goal.returns-in-Err-clause-refused
returns-in-Err-clause-refused c = refused c.args.config c.in-Err.fault c.in-Err.ensures.value
