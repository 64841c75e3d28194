-- What is wrong with words that were to be zero, one or two numbers.
use Rattle.std.proofs.Common.{◌≡◌, ℕ, List, [], ◌∷◌, length, arith, refl}
use Rattle.litmus_text.specs.Form.{IsFaultOf, IsFormFaultOf, no_parts, one_part, two_parts}
use Rattle.litmus_text.specs.declared.fault.LineFault.{LineFault}
use Rattle.litmus_text.specs.declared.fault.LineFault.TheVariants as line_faults
use Rattle.litmus_test.specs.Fault.{IsFormFault}

pub none_wrong : (words : List (List ℕ)) (fault : LineFault) → IsFormFaultOf no_parts words fault
    → IsFormFault (length words ≡ 0) fault
unfolding IsFaultOf
none_wrong [] line_faults.NotACommand h = absurd (h tt tt)
none_wrong (a ∷ more) line_faults.NotACommand h =
    record { as_form = λ same. absurd (omega arith); other = λ none. refl }
none_wrong [] line_faults.BadNumber h = record { as_form = λ same. refl; other = λ none. absurd (none refl) }
none_wrong (a ∷ more) line_faults.BadNumber h = absurd h.0.1
none_wrong words line_faults.OutOfRange h = absurd (h.1 h.0.0 h.0.1 tt)
none_wrong words other h = absurd h

pub one_wrong : (words : List (List ℕ)) (fault : LineFault) → IsFormFaultOf one_part words fault
    → IsFormFault (length words ≡ 1) fault
unfolding IsFaultOf
one_wrong [] line_faults.NotACommand h = record { as_form = λ same. absurd (omega arith); other = λ none. refl }
one_wrong (a ∷ []) line_faults.NotACommand h = absurd (h 0 tt)
one_wrong (a ∷ b ∷ more) line_faults.NotACommand h =
    record { as_form = λ same. absurd (omega arith); other = λ none. refl }
one_wrong [] line_faults.BadNumber h = absurd h.0.1
one_wrong (a ∷ []) line_faults.BadNumber h = record { as_form = λ same. refl; other = λ none. absurd (none refl) }
one_wrong (a ∷ b ∷ more) line_faults.BadNumber h = absurd h.0.1
one_wrong words line_faults.OutOfRange h = absurd (h.1 h.0.0 h.0.1 tt)
one_wrong words other h = absurd h

pub two_wrong : (words : List (List ℕ)) (fault : LineFault) → IsFormFaultOf two_parts words fault
    → IsFormFault (length words ≡ 2) fault
unfolding IsFaultOf
two_wrong [] line_faults.NotACommand h = record { as_form = λ same. absurd (omega arith); other = λ none. refl }
two_wrong (a ∷ []) line_faults.NotACommand h = record { as_form = λ same. absurd (omega arith); other = λ none. refl }
two_wrong (a ∷ b ∷ []) line_faults.NotACommand h = absurd (h (0, 0) tt)
two_wrong (a ∷ b ∷ d ∷ more) line_faults.NotACommand h =
    record { as_form = λ same. absurd (omega arith); other = λ none. refl }
two_wrong [] line_faults.BadNumber h = absurd h.0.1
two_wrong (a ∷ []) line_faults.BadNumber h = absurd h.0.1
two_wrong (a ∷ b ∷ []) line_faults.BadNumber h = record { as_form = λ same. refl; other = λ none. absurd (none refl) }
two_wrong (a ∷ b ∷ d ∷ more) line_faults.BadNumber h = absurd h.0.1
two_wrong words line_faults.OutOfRange h = absurd (h.1 h.0.0 h.0.1 tt)
two_wrong words other h = absurd h
