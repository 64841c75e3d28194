use Rattle.trace_check.proofs.CheckLemmas.{verdict_illegal, verdict_legal}
use Rattle.trace_check.proofs.trace_judge.TraceJudge.verdict.Goals as goal

pub returns-in-Some : goal.returns-in-Some
returns-in-Some c =
    λ init entries stands. verdict_illegal _ _ entries _ c.in-Some.entry c.in-Some.reason c.in-Some.is stands.so_far

pub returns-in-None : goal.returns-in-None
returns-in-None c = λ init entries stands. verdict_legal _ _ entries _ _ c.in-None.is stands.count stands.so_far
