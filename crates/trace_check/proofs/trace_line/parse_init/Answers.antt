use Rattle.std.proofs.Common.{◌<◌, arith, refl}
use Rattle.litmus_text.specs.Form.{two_parts}
use Rattle.litmus_text.proofs.FaultLemmas.{fault_of_form, handed_on, lacks_two}
use Rattle.trace_check.specs.declared.judge.TheConstants.{MOST_WORDS}
use Rattle.trace_check.proofs.LineFaultLemmas.{init_fault}
use Rattle.trace_check.proofs.trace_line.parse_init.Goals as goal

pub returns-in_err-word-clause-fault : goal.returns-in_err-word-clause-fault
returns-in_err-word-clause-fault c = λ version.
    handed_on _ _ c.from_residual.result c.from_residual.ensures.1
    (init_fault version _ _ (fault_of_form two_parts (λ p. p.0 < MOST_WORDS) _ _ c.in_err-word.ensures.fault))

pub returns-then-word-ge-MOST_WORDS-clause-fault : goal.returns-then-word-ge-MOST_WORDS-clause-fault
returns-then-word-ge-MOST_WORDS-clause-fault c = λ version.
    init_fault version _ _
    (lacks_two _ c.in_ok-word.word c.in_ok-word.value (λ p. p.0 < MOST_WORDS) c.in_ok-word.ensures.written
    c.in_ok-word.ensures.only (λ small. omega arith) _ refl)
