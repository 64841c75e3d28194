use Rattle.litmus_text.proofs.ConfigLineLemmas.{count_fault, counter_fault, exclusive_fault, init_fault, misses_fault}
use Rattle.litmus_text.proofs.ConfigLineLemmas.{policy_fault}
use Rattle.litmus_text.proofs.FaultLemmas.{handed_on}
use Rattle.litmus_text.proofs.config_line.parse_called.Goals as goal

pub returns-in_err-one_number-in-Count-clause-fault : goal.returns-in_err-one_number-in-Count-clause-fault
returns-in_err-one_number-in-Count-clause-fault c =
    rw c.in-Count.is
    (handed_on _ _ c.from_residual.result c.from_residual.ensures.1
    (count_fault _ _ _ c.in_err-one_number-in-Count.ensures.fault))

pub returns-in_err-parse_policy-in-Policy-clause-fault : goal.returns-in_err-parse_policy-in-Policy-clause-fault
returns-in_err-parse_policy-in-Policy-clause-fault c =
    rw c.in-Policy.is
    (handed_on _ _ c.from_residual-in_err-parse_policy-in-Policy.result c.from_residual-in_err-parse_policy-in-Policy.ensures.1
    (policy_fault _ _ c.in_err-parse_policy-in-Policy.ensures.fault))

pub returns-in_err-misses-in-Misses-clause-fault : goal.returns-in_err-misses-in-Misses-clause-fault
returns-in_err-misses-in-Misses-clause-fault c =
    rw c.in-Misses.is
    (handed_on _ _ c.from_residual-in_err-misses-in-Misses.result c.from_residual-in_err-misses-in-Misses.ensures.1
    (misses_fault _ _ c.in_err-misses-in-Misses.ensures.fault))

pub returns-in_err-setting-in-Exclusive-clause-fault : goal.returns-in_err-setting-in-Exclusive-clause-fault
returns-in_err-setting-in-Exclusive-clause-fault c =
    rw c.in-Exclusive.is
    (handed_on _ _ c.from_residual-in_err-setting-in-Exclusive.result c.from_residual-in_err-setting-in-Exclusive.ensures.1
    (exclusive_fault _ _ c.in_err-setting-in-Exclusive.ensures.fault))

pub returns-in_err-word-in-Init-clause-fault : goal.returns-in_err-word-in-Init-clause-fault
returns-in_err-word-in-Init-clause-fault c =
    rw c.in-Init.is
    (handed_on _ _ c.from_residual-in_err-word-in-Init.result c.from_residual-in_err-word-in-Init.ensures.1
    (init_fault _ _ c.in_err-word-in-Init.ensures.fault))

pub returns-in_err-one_number-in-Counter-clause-fault : goal.returns-in_err-one_number-in-Counter-clause-fault
returns-in_err-one_number-in-Counter-clause-fault c =
    rw c.in-Counter.is
    (handed_on _ _ c.from_residual-in_err-one_number-in-Counter.result c.from_residual-in_err-one_number-in-Counter.ensures.1
    (counter_fault _ _ c.in_err-one_number-in-Counter.ensures.fault))
