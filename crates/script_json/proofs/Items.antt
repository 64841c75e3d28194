-- Texts that are written item by item.
use Rattle.std.proofs.Common.{ℕ, ◌+◌, ◌<◌, ◌≤◌, Bool, false, List, ◌∷◌, ◌++◌, Option, drop, get_or, length, map, sym, subst}
use Rattle.std.specs.Io.KnownBytes.{Appends}
use Rattle.std.specs.List.{flat_map}
use Rattle.std.proofs.KnownBytes.{Appends-nil, Appends-trans}
use Rattle.std.proofs.lemmas.List.{at_drop_all, at_drop_more}
use Rattle.litmus_text.specs.JsonList.{before_text, with_commas_from}

-- an item of a list, and then those after it
pub item_written : {X : Type 0} (text : X → List ℕ) (first : Bool) (x : X) (rest : List X) (a b c d : Option (List ℕ))
    → Appends a b (before_text first) → Appends b c (text x) → Appends c d (with_commas_from false (map text rest))
    → Appends a d (with_commas_from first (map text (x ∷ rest)))
item_written text first x rest a b c d comma one more =
    Appends-trans a c d (before_text first ++ text x) _ (Appends-trans a b c (before_text first) (text x) comma one) more

-- the text of the next item, and then those of the items after it
pub piece_written : (text : ℕ → List ℕ) (xs : List ℕ) (i : ℕ) (a b c : Option (List ℕ)) → i < length xs
    → Appends a b (text (get_or xs i 0)) → Appends b c (flat_map text (drop (i + 1) xs))
    → Appends a c (flat_map text (drop i xs))
piece_written text xs i a b c below one more =
    subst (Appends a c) (sym (at_drop_more (flat_map text) xs i 0 below))
    (Appends-trans a b c (text (get_or xs i 0)) _ one more)

-- after the last there is none
pub none_written : (text : ℕ → List ℕ) (xs : List ℕ) (i : ℕ) (a : Option (List ℕ)) → length xs ≤ i
    → Appends a a (flat_map text (drop i xs))
none_written text xs i a end = subst (Appends a a) (sym (at_drop_all (flat_map text) xs i end)) (Appends-nil a)
