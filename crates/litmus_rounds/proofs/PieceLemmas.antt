-- Texts that grow by a few pieces, and the front of a text.
use Rattle.std.proofs.Common.{◌≡◌, ℕ, ◌+◌, List, ◌++◌, length, take, drop, sym, ap, ap₂, nat_eq, true}
use Rattle.std.proofs.Common.{◌∙◌, append_assoc}
use Rattle.std.proofs.lemmas.List.{take-append-drop}
use Rattle.std.specs.Cmp.Lexicographic.{bytes_decides, pointwise}

-- a text whose front is another is that one, and the rest
pub whole_text : (text front rest written : List ℕ) → pointwise nat_eq (take (length front) text) front ≡ true
    → rest ≡ drop (length front) text → front ≡ written → text ≡ written ++ rest
whole_text text front rest written same behind is =
    sym (take-append-drop (length front) text)
    ∙ ap₂ (λ (a b : List ℕ). a ++ b) ((bytes_decides (take (length front) text) front).0 same ∙ is) (sym behind)

-- pieces that are added one after another are added together
pub four_pieces : (old a b c d one two three four : List ℕ) → one ≡ old ++ a → two ≡ one ++ b → three ≡ two ++ c
    → four ≡ three ++ d → four ≡ old ++ (a ++ (b ++ (c ++ d)))
four_pieces old a b c d one two three four first second third fourth =
    fourth ∙ ap (λ (t : List ℕ). t ++ d) third ∙ append_assoc two c d
    ∙ ap (λ (t : List ℕ). t ++ (c ++ d)) second ∙ append_assoc one b (c ++ d)
    ∙ ap (λ (t : List ℕ). t ++ (b ++ (c ++ d))) first ∙ append_assoc old a (b ++ (c ++ d))
