use Rattle.std.proofs.lemmas.Result.{on_ok_weaker}
use Rattle.trace_check.proofs.CheckLemmas.{step_behind, step_wrong, step_right}
use Rattle.trace_check.proofs.trace_judge.TraceJudge.step.Goals as goal

pub returns-in-Some-clause-so_far : goal.returns-in-Some-clause-so_far
returns-in-Some-clause-so_far c = λ initial entries count so_far.
    step_behind c.args.self.now.judge initial entries c.args.entry.now _ _ c.in-Some.is so_far

pub returns-in-Some-fault-clause-so_far : goal.returns-in-Some-fault-clause-so_far
returns-in-Some-fault-clause-so_far c = λ initial entries count so_far.
    step_wrong c.args.self.now.judge initial entries c.args.entry.now c.args.self.now.fault c.args.self.now.entries
    c.in-Some-fault.reason
    c.in_default.is count so_far (c.in-Some-fault.ensures initial entries count)

pub returns-in-None-clause-so_far : goal.returns-in-None-clause-so_far
returns-in-None-clause-so_far c =
    on_ok_weaker c.take.result
    (λ taken initial entries count so_far.
    step_right c.args.self.now.judge _ initial entries c.args.entry.now c.args.self.now.fault c.in_default.is so_far
    (λ knows. taken initial entries knows (c.in-None.ensures initial entries count knows)))
    c.take.ensures
