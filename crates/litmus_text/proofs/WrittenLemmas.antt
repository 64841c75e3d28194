-- The text of the line that issues a request, in the pieces in which it is written.
use Rattle.std.proofs.Common.{◌≡◌, ℕ, ◌∷◌, ◌++◌, append_assoc, codes, decimal, refl}
use Rattle.address_map.specs.declared.request.Op.{Op}
use Rattle.address_map.specs.declared.request.Op.TheVariants as ops
use Rattle.litmus_text.specs.Command.{parts_of_op}
use Rattle.litmus_text.specs.Form.{Part, key, num}
use Rattle.litmus_text.specs.Line.{line_of_parts, text_of_part, text_of_parts}

-- what is before the access, and then the access
before_access : (part : Part) (op : Op) (word : ℕ)
    → text_of_parts (part ∷ parts_of_op op word) ≡ text_of_part part ++ (codes " " ++ text_of_parts (parts_of_op op word))
unfolding parts_of_op
before_access part ops.Load word = refl
before_access part (ops.Store value) word = refl
before_access part (ops.Add delta) word = refl
before_access part (ops.Cas expect new) word = refl

pub issue_text : (core tag word : ℕ) (op : Op)
    → codes "issue " ++ (decimal core ++ (codes " " ++ (decimal tag ++ (codes " "
    ++ (text_of_parts (parts_of_op op word) ++ codes "\n")))))
    ≡ line_of_parts (key (codes "issue") ∷ num core ∷ num tag ∷ parts_of_op op word)
issue_text core tag word op = simp (before_access, append_assoc)
