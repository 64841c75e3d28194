use Rattle.litmus_text.proofs.FormLemmas.{no_words}
use Rattle.litmus_text.proofs.PolicyLemmas.{no_policy_written, nothing_fault, unnamed_fault}
use Rattle.litmus_text.proofs.policy.parse_policy.Goals as goal

pub returns-in_default-clause-fault : goal.returns-in_default-clause-fault
returns-in_default-clause-fault c =
    rw (no_words (λ w. w.now) c.args.words.now c.in_default.ensures.cases) nothing_fault

pub returns-in-None-clause-refused : goal.returns-in-None-clause-refused
returns-in-None-clause-refused c = rw c.in-Some.ensures.cases.0 (no_policy_written _ _ c.in-None.ensures.none)

pub returns-in-None-clause-fault : goal.returns-in-None-clause-fault
returns-in-None-clause-fault c = rw c.in-Some.ensures.cases.0 (unnamed_fault _ _ c.in-None.ensures.none)
