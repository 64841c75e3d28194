use Rattle.std.proofs.Common.{arith}
use Rattle.litmus_text.proofs.FaultLemmas.{handed_on, no_three}
use Rattle.litmus_text.proofs.number.three_numbers.Goals as goal

pub returns-in_err-number-clause-fault : goal.returns-in_err-number-clause-fault
returns-in_err-number-clause-fault c =
    handed_on _ _ c.from_residual.result c.from_residual.ensures.1
    (no_three (λ w. w.now) c.args.words.now 0 _ _ (omega arith) (omega arith)
    c.in_err-number.ensures.ok c.in_err-number.ensures.err)

pub returns-in_err-number-2-clause-fault : goal.returns-in_err-number-2-clause-fault
returns-in_err-number-2-clause-fault c =
    handed_on _ _ c.from_residual-in_err-number-2.result c.from_residual-in_err-number-2.ensures.1
    (no_three (λ w. w.now) c.args.words.now 1 _ _ (omega arith) (omega arith)
    c.in_err-number-2.ensures.ok c.in_err-number-2.ensures.err)

pub returns-in_err-number-3-clause-fault : goal.returns-in_err-number-3-clause-fault
returns-in_err-number-3-clause-fault c =
    handed_on _ _ c.from_residual-in_err-number-3.result c.from_residual-in_err-number-3.ensures.1
    (no_three (λ w. w.now) c.args.words.now 2 _ _ (omega arith) (omega arith)
    c.in_err-number-3.ensures.ok c.in_err-number-3.ensures.err)
