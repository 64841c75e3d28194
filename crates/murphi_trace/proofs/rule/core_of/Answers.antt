use Rattle.murphi_trace.proofs.PartLemmas.{no_digit, one_digit, other_byte}
use Rattle.murphi_trace.proofs.rule.core_of.Goals as goal

pub returns-in_default-clause-value : goal.returns-in_default-clause-value
returns-in_default-clause-value c = no_digit c.args.text.now c.in_default.ensures.value

pub returns-then-is_ascii_digit-clause-value : goal.returns-then-is_ascii_digit-clause-value
returns-then-is_ascii_digit-clause-value c =
    one_digit c.args.text.now _ c.in-Some.ensures.value c.if-is_ascii_digit.ensures.value

pub returns-else-is_ascii_digit-clause-value : goal.returns-else-is_ascii_digit-clause-value
returns-else-is_ascii_digit-clause-value c =
    other_byte c.args.text.now _ c.in-Some.ensures.value c.if-is_ascii_digit.ensures.value
