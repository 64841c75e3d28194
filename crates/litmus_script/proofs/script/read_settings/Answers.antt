use Rattle.litmus_script.proofs.ScriptLemmas.{configured_more, configured_none}
use Rattle.litmus_script.proofs.script.read_settings.Goals as goal

pub lines-init : goal.lines-init
lines-init c = rw c.new-settings.ensures (configured_none _)

pub lines-preserved : goal.lines-preserved
lines-preserved c =
    let more = configured_more _ _ _ _ _ c.lines.invariant c.in_ok-configure.ensures.taken in
    rw c.in-Some.ensures.steps at more

pub returns-in-None-clause-read : goal.returns-in-None-clause-read
returns-in-None-clause-read c =
    let more = configured_more _ _ _ _ _ c.lines.invariant c.in_ok-configure.ensures.taken in
    rw c.in-None.ensures.steps.1 (rw c.in-None.ensures.steps.0 at more)
