use Rattle.litmus_script.proofs.ScriptLemmas.{refused}
use Rattle.litmus_script.proofs.script.checked.Goals as goal

pub returns-in-Err-clause-refused : goal.returns-in-Err-clause-refused
returns-in-Err-clause-refused c = refused c.args.config _ c.in-Err.ensures.value
