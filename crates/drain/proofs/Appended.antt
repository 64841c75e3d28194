-- Lists that are appended in turn, one for each number below a limit.
use Rattle.std.proofs.Common.{◌≡◌, ℕ, ◌+◌, ◌<◌, ◌∙◌, Bool, true, false, List, [], ◌∷◌, ◌++◌, length, sym, ap, cond}
use Rattle.std.proofs.Common.{append_assoc, filter, get_or, take}
use Rattle.std.specs.List.{flat_map, range_with_len}
use Rattle.std.proofs.lemmas.Grind.{flat_map-append}
use Rattle.std.proofs.lemmas.List.{append-nil}
use Rattle.std.proofs.lemmas.List.Elements.{filter_more}
use Rattle.drain.proofs.Sums.{below-more}

flat_map-push : {X Y : Type 0} (f : X → List Y) (xs : List X) (x : X) → flat_map f (xs ++ x ∷ []) ≡ flat_map f xs ++ f x
flat_map-push f xs x = flat_map-append f xs (x ∷ []) ∙ ap (λ ys. flat_map f xs ++ ys) (append-nil (f x))

-- one more number
pub range-appended : {Y : Type 0} (f : ℕ → List Y) (before out new : List Y) (n : ℕ)
    → out ≡ before ++ flat_map f (range_with_len 0 n) → new ≡ out ++ f n
    → new ≡ before ++ flat_map f (range_with_len 0 (n + 1))
range-appended f before out new n so_far now =
    now ∙ ap (λ ys. ys ++ f n) so_far
    ∙ append_assoc before (flat_map f (range_with_len 0 n)) (f n)
    ∙ ap (λ ys. before ++ ys)
    (sym (flat_map-push f (range_with_len 0 n) n) ∙ ap (flat_map f) (sym (below-more n)))

filter-more : {X : Type 0} (p : X → Bool) (xs : List X) (i : ℕ) (x : X) (b : Bool) → i < length xs → x ≡ get_or xs i x
    → p x ≡ b → filter p (take (i + 1) xs) ≡ filter p (take i xs) ++ cond b (x ∷ []) []
filter-more {X} p xs i x b within here test =
    filter_more p xs i x within
    ∙ ap (λ (y : X). filter p (take i xs) ++ cond (p y) (y ∷ []) []) (sym here)
    ∙ ap (λ t. filter p (take i xs) ++ cond t (x ∷ []) []) test

-- one more of those that pass a test
pub filtered-appended : {X Y : Type 0} (p : X → Bool) (f : X → List Y) (xs : List X) (i : ℕ) (x : X)
    (before out new : List Y) → i < length xs → x ≡ get_or xs i x → p x ≡ true
    → out ≡ before ++ flat_map f (filter p (take i xs)) → new ≡ out ++ f x
    → new ≡ before ++ flat_map f (filter p (take (i + 1) xs))
filtered-appended {X} p f xs i x before out new within here test so_far now =
    now ∙ ap (λ ys. ys ++ f x) so_far ∙ append_assoc before (flat_map f (filter p (take i xs))) (f x)
    ∙ ap (λ ys. before ++ ys) (sym (flat_map-push f (filter p (take i xs)) x))
    ∙ ap (λ (zs : List X). before ++ flat_map f zs) (sym (filter-more p xs i x true within here test))

-- one that doesn't pass
pub filtered-left : {X Y : Type 0} (p : X → Bool) (f : X → List Y) (xs : List X) (i : ℕ) (x : X) (before out : List Y)
    → i < length xs → x ≡ get_or xs i x → p x ≡ false → out ≡ before ++ flat_map f (filter p (take i xs))
    → out ≡ before ++ flat_map f (filter p (take (i + 1) xs))
filtered-left {X} p f xs i x before out within here test so_far =
    so_far
    ∙ ap (λ (zs : List X). before ++ flat_map f zs)
    (sym (filter-more p xs i x false within here test ∙ append-nil (filter p (take i xs))))
