-- What is written piece by piece.
use Rattle.std.proofs.Common.{◌≡◌, ℕ, Bool, false, List, [], ◌∷◌, Some, drop, map, refl, subst, Result, Ok, Err, IsOk, OnOk}
use Rattle.std.specs.Fmt.{WritesInCalls}
use Rattle.std.specs.List.{slice_get}
use Rattle.std.proofs.Output.{writes_in_calls_append}
use Rattle.litmus_text.specs.JsonList.{before_text, with_commas_from}

-- the first of a list that is gone through from its front, and then those after it
pub first_text : {W X : Type 0} (took : W → List ℕ → W → Type 0) (text : X → List ℕ) (first : Bool) (left rest : List X)
    (x : X) → Some x ≡ slice_get left 0 → rest ≡ drop 1 left
    → (old mid new last : W) → WritesInCalls took old (before_text first) mid → WritesInCalls took mid (text x) new
    → WritesInCalls took new (with_commas_from false (map text rest)) last
    → WritesInCalls took old (with_commas_from first (map text left)) last
first_text took text first [] rest x at behind old mid new last comma one more = absurd (cc)
first_text {W} {X} took text first (y ∷ ys) rest x at behind old mid new last comma one more =
    let is : x ≡ y = cc (at) in
    writes_in_calls_append took old _ new _ last
    (writes_in_calls_append took old _ mid _ new comma
    (subst (λ (z : X). WritesInCalls took mid (text z) new) is one))
    (subst (λ (zs : List X). WritesInCalls took new (with_commas_from false (map text zs)) last) behind more)

-- what holds if a result is Ok holds of it
pub on_ok_from : {T E P : Type 0} (r : Result T E) → (IsOk r → P) → OnOk r P
on_ok_from (Ok x) holds = holds refl
on_ok_from (Err e) holds = tt
