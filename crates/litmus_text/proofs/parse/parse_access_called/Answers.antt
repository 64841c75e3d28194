use Rattle.litmus_text.proofs.AccessLemmas.{add_fault, cas_fault, load_fault, store_fault}
use Rattle.litmus_text.proofs.FaultLemmas.{handed_on}
use Rattle.litmus_text.proofs.parse.parse_access_called.Goals as goal

pub returns-in_err-word-in-Load-clause-fault : goal.returns-in_err-word-in-Load-clause-fault
returns-in_err-word-in-Load-clause-fault c =
    rw c.in-Load.is
    (handed_on _ _ c.from_residual.result c.from_residual.ensures.1
    (load_fault _ _ c.in_err-word-in-Load.ensures.fault))

pub returns-in_err-word-in-Store-clause-fault : goal.returns-in_err-word-in-Store-clause-fault
returns-in_err-word-in-Store-clause-fault c =
    rw c.in-Store.is
    (handed_on _ _ c.from_residual-in_err-word-in-Store.result c.from_residual-in_err-word-in-Store.ensures.1
    (store_fault _ _ c.in_err-word-in-Store.ensures.fault))

pub returns-in_err-word-in-Add-clause-fault : goal.returns-in_err-word-in-Add-clause-fault
returns-in_err-word-in-Add-clause-fault c =
    rw c.in-Add.is
    (handed_on _ _ c.from_residual-in_err-word-in-Add.result c.from_residual-in_err-word-in-Add.ensures.1
    (add_fault _ _ c.in_err-word-in-Add.ensures.fault))

pub returns-in_err-word-in-Cas-clause-fault : goal.returns-in_err-word-in-Cas-clause-fault
returns-in_err-word-in-Cas-clause-fault c =
    rw c.in-Cas.is
    (handed_on _ _ c.from_residual-in_err-word-in-Cas.result c.from_residual-in_err-word-in-Cas.ensures.1
    (cas_fault _ _ c.in_err-word-in-Cas.ensures.fault))
