use Rattle.std.proofs.Common.{arith}
use Rattle.std.proofs.lemmas.Result.{on_ok_weaker}
use Rattle.trace_check.specs.TraceLine.{IsInRange}
use Rattle.trace_check.specs.Trace.{MayFollow}
use Rattle.trace_check.proofs.CheckLemmas.{reading-begin, reading-judge, few_cores}
use Rattle.trace_check.proofs.check.Check.take.Goals as goal

pub begin-requires-clause-word : goal.begin-requires-clause-word
unfolding IsInRange
begin-requires-clause-word c = rw c.in-Ok-Init.field-0-is at c.in-Ok-Init.ensures.written.in_range

pub begin-requires-clause-place : goal.begin-requires-clause-place
unfolding MayFollow
begin-requires-clause-place c = rw c.in-Ok-Init.field-0-is at c.in-Ok-Init.ensures.follows

pub judge-requires : goal.judge-requires
unfolding IsInRange
judge-requires c =
    let allowed = rw c.in-Ok-Entry.field-0-is at c.in-Ok-Entry.ensures.written.in_range in
    record { core = omega (arith, few_cores c.args.self.now.version, allowed.core); word = allowed.word }

pub returns-in-Ok-Init-clause-reading : goal.returns-in-Ok-Init-clause-reading
unfolding MayFollow
returns-in-Ok-Init-clause-reading c =
    on_ok_weaker c.begin.result
    (λ stands all left reading. reading-begin c.args.self.now _ all left _ c.in-Ok-Init.word c.in-Ok-Init.value
    c.begin.ensures.version
    (rw c.in-Ok-Init.field-0-is at c.in-Ok-Init.ensures.follows)
    (rw (c.as_slice.ensures.value, c.in-Ok-Init.field-0-is) at c.in-Ok-Init.ensures.written) stands reading)
    c.begin.ensures.stands

pub returns-in-Ok-Entry-clause-reading : goal.returns-in-Ok-Entry-clause-reading
returns-in-Ok-Entry-clause-reading c =
    on_ok_weaker c.judge.result
    (λ stands all left reading. reading-judge c.args.self.now _ all left _ c.in-Ok-Entry.entry c.judge.ensures.version
    (rw (c.as_slice.ensures.value, c.in-Ok-Entry.field-0-is) at c.in-Ok-Entry.ensures.written) stands reading)
    c.judge.ensures.stands
