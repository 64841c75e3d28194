-- The lines of a trace, in the pieces from which they are built.
use Rattle.std.proofs.Common.{◌≡◌, ℕ, List, [], ◌∷◌, ◌++◌, codes, decimal, append_assoc, refl, ap, ◌∙◌}
use Rattle.address_map.specs.declared.request.Op.{Op}
use Rattle.address_map.specs.declared.request.Op.TheVariants as ops
use Rattle.litmus_text.specs.Command.{parts_of_op}
use Rattle.litmus_text.specs.Form.{key, num}
use Rattle.litmus_text.specs.Line.{line_of_parts, text_of_parts}

-- a number after a blank
abbrev pub spaced : ℕ → List ℕ
spaced n = codes " " ++ decimal n

-- a name s-parted from one, two and three texts, and what follows them
module _ (name s : List ℕ) where
  one : (a rest : List ℕ) → name ++ (s ++ (a ++ rest)) ≡ (name ++ (s ++ a)) ++ rest
  one a rest = simp append_assoc

  two : (a b rest : List ℕ) → name ++ (s ++ (a ++ (s ++ (b ++ rest)))) ≡ (name ++ (s ++ (a ++ (s ++ b)))) ++ rest
  two a b rest = simp append_assoc

  three : (a b c rest : List ℕ) → name ++ (s ++ (a ++ (s ++ (b ++ (s ++ (c ++ rest))))))
      ≡ (name ++ (s ++ (a ++ (s ++ (b ++ (s ++ c)))))) ++ rest
  three a b c rest = simp append_assoc

  initial : (a b end : List ℕ) → (name ++ (s ++ (a ++ (s ++ b)))) ++ end ≡ ((name ++ (s ++ a)) ++ (s ++ b)) ++ end
  initial a b end = simp append_assoc

  entry : (a b c access d e end : List ℕ)
      → (name ++ (s ++ (a ++ (s ++ (b ++ (s ++ (c ++ (s ++ (access ++ (s ++ (d ++ (s ++ e)))))))))))) ++ end
      ≡ ((((((name ++ (s ++ a)) ++ (s ++ b)) ++ (s ++ c)) ++ (s ++ access)) ++ (s ++ d)) ++ (s ++ e)) ++ end
  entry a b c access d e end = simp append_assoc

-- an access, and the two numbers after it
access_pieces : (word reply since : ℕ) (op : Op) → text_of_parts (parts_of_op op word ++ num reply ∷ num since ∷ [])
    ≡ text_of_parts (parts_of_op op word) ++ (codes " " ++ (decimal reply ++ (codes " " ++ decimal since)))
unfolding parts_of_op
access_pieces word reply since ops.Load = one (codes "load") (codes " ") (decimal word) _
access_pieces word reply since (ops.Store value) = two (codes "store") (codes " ") (decimal word) (decimal value) _
access_pieces word reply since (ops.Add delta) = two (codes "add") (codes " ") (decimal word) (decimal delta) _
access_pieces word reply since (ops.Cas expect new) =
    three (codes "cas") (codes " ") (decimal word) (decimal expect) (decimal new) _

-- after the tag comes the access
tag_first : (tag word reply since : ℕ) (op : Op) →
    text_of_parts (num tag ∷ (parts_of_op op word ++ num reply ∷ num since ∷ []))
    ≡ decimal tag ++ (codes " " ++ text_of_parts (parts_of_op op word ++ num reply ∷ num since ∷ []))
unfolding parts_of_op
tag_first tag word reply since ops.Load = refl
tag_first tag word reply since (ops.Store value) = refl
tag_first tag word reply since (ops.Add delta) = refl
tag_first tag word reply since (ops.Cas expect new) = refl

-- three numbers, an access, and two numbers
pub entry_pieces : (core seq tag word reply since : ℕ) (op : Op) →
    line_of_parts (key (codes "entry") ∷ num core ∷ num seq ∷ num tag
    ∷ (parts_of_op op word ++ num reply ∷ num since ∷ []))
    ≡ ((((((codes "entry" ++ spaced core) ++ spaced seq) ++ spaced tag)
    ++ (codes " " ++ text_of_parts (parts_of_op op word)))
    ++ spaced reply) ++ spaced since) ++ codes "\n"
entry_pieces core seq tag word reply since op =
    let behind : List ℕ → List ℕ = λ rest. (codes "entry" ++ (codes " " ++ (decimal core ++ (codes " " ++ (decimal seq
    ++ (codes " " ++ rest)))))) ++ codes "\n" in
    ap behind (tag_first tag word reply since op ∙ ap (λ rest. decimal tag ++ (codes " " ++ rest))
    (access_pieces word reply since op))
    ∙ entry (codes "entry") (codes " ") (decimal core) (decimal seq) (decimal tag) (text_of_parts (parts_of_op op word))
    (decimal reply) (decimal since) (codes "\n")

-- a word and its value
pub initial_pieces : (word value : ℕ) → line_of_parts (key (codes "init") ∷ num word ∷ num value ∷ [])
    ≡ ((codes "init" ++ spaced word) ++ spaced value) ++ codes "\n"
initial_pieces word value = initial (codes "init") (codes " ") (decimal word) (decimal value) (codes "\n")
