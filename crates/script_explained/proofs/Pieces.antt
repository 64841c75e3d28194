-- An answer with what is said of it, in the pieces in which it is written.
use Rattle.std.proofs.Common.{◌≡◌, ℕ, List, ◌++◌, append_assoc}

pub pieces : (answer blanks told copies end : List ℕ)
    → ((answer ++ blanks) ++ (told ++ copies)) ++ end ≡ (answer ++ (blanks ++ told)) ++ (copies ++ end)
pieces answer blanks told copies end = simp append_assoc
