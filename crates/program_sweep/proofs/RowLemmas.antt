-- Texts that grow by a few pieces.
use Rattle.std.proofs.Common.{◌≡◌, ℕ, ◌+◌, List, ◌++◌, ap}
use Rattle.std.proofs.Common.{◌∙◌, append_assoc}

-- pieces that are added one after another are added together
pub three_pieces : (old a b c one two three : List ℕ) → one ≡ old ++ a → two ≡ one ++ b → three ≡ two ++ c
    → three ≡ old ++ ((a ++ b) ++ c)
three_pieces old a b c one two three first second third =
    third
    ∙ ap (λ (t : List ℕ). t ++ c) (second ∙ ap (λ (t : List ℕ). t ++ b) first ∙ append_assoc old a b)
    ∙ append_assoc old (a ++ b) c

pub four_pieces : (old a b c d one two three four : List ℕ) → one ≡ old ++ a → two ≡ one ++ b → three ≡ two ++ c
    → four ≡ three ++ d → four ≡ old ++ (((a ++ b) ++ c) ++ d)
four_pieces old a b c d one two three four first second third fourth =
    fourth
    ∙ ap (λ (t : List ℕ). t ++ d) (three_pieces old a b c one two three first second third)
    ∙ append_assoc old ((a ++ b) ++ c) d
