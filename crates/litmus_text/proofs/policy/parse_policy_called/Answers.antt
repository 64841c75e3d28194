use Rattle.litmus_text.proofs.FaultLemmas.{handed_on}
use Rattle.litmus_text.proofs.PolicyLemmas.{fifo_fault, lru_fault, random_fault}
use Rattle.litmus_text.proofs.policy.parse_policy_called.Goals as goal

pub returns-in_err-no_numbers-in-Lru-clause-fault :
    goal.returns-in_err-no_numbers-in-Lru-clause-fault
returns-in_err-no_numbers-in-Lru-clause-fault c =
    rw c.in-Lru.is
    (handed_on _ _ c.from_residual.result c.from_residual.ensures.1
    (lru_fault _ _ c.in_err-no_numbers-in-Lru.ensures.fault))

pub returns-in_err-no_numbers-in-Fifo-clause-fault :
    goal.returns-in_err-no_numbers-in-Fifo-clause-fault
returns-in_err-no_numbers-in-Fifo-clause-fault c =
    rw c.in-Fifo.is
    (handed_on _ _ c.from_residual-in_err-no_numbers-in-Fifo.result c.from_residual-in_err-no_numbers-in-Fifo.ensures.1
    (fifo_fault _ _ c.in_err-no_numbers-in-Fifo.ensures.fault))

pub returns-in_err-one_number-in-Random-clause-fault :
    goal.returns-in_err-one_number-in-Random-clause-fault
returns-in_err-one_number-in-Random-clause-fault c =
    rw c.in-Random.is
    (handed_on _ _ c.from_residual-in_err-one_number-in-Random.result
    c.from_residual-in_err-one_number-in-Random.ensures.1
    (random_fault _ _ c.in_err-one_number-in-Random.ensures.fault))
