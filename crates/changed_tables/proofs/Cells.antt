-- What holds of each cell, and of some cell, where the code has the cells in another form.
use Rattle.std.proofs.Common.{arith, ◌∷◌, [], refl, subst, ◌≡◌, ◌<◌, ◌≤◌, ◌++◌, ℕ, List, Option, Some, None, IfSome, get_or, length, map, sym, take}
use Rattle.std.proofs.lemmas.List.{append-nil, get_or-map, length-map, take_all}
use Rattle.std.proofs.lemmas.List.Elements.{All-map, All-push, All-same}
use Rattle.std.specs.List.{All, Any}
use Rattle.std.specs.Option.{option_to_list}

-- what holds of each as the code has them holds of each as the text does
pub all_mapped : {X Y : Type 0} (P : Y → Type 0) (f : X → Y) (xs : List X) (ys : List Y) → map f xs ≡ ys
    → All (λ x. P (f x)) xs → All P ys
all_mapped P f xs ys is each = All-same P ys (map f xs) (sym is) (All-map P f xs each)

-- one of them is one of those
pub any_mapped : {X Y : Type 0} (P : Y → Type 0) (f : X → Y) (xs : List X) (i : ℕ) (d : X) → i < length xs
    → P (f (get_or xs i d)) → Any P (map f xs)
any_mapped P f xs i d below holds =
    (i, f (get_or xs i d), rw length-map below, get_or-map f xs i d (f (get_or xs i d)) below, holds)

-- the loop has come to the end
pub all_taken : {X : Type 0} (P : X → Type 0) (xs : List X) (i : ℕ) → length xs ≤ i → All P (take i xs) → All P xs
all_taken P xs i end each = All-same P xs (take i xs) (sym (take_all i xs end)) each

-- one more, if there is one
pub all_more : {X : Type 0} (P : X → Type 0) (old new : List X) (found : Option X) → new ≡ old ++ option_to_list found
    → All P old → IfSome found P → All P new
all_more P old new None is each none = All-same P new old (rw append-nil at is) each
all_more P old new (Some x) is each holds = All-same P new _ is (All-push P old x each holds)

-- what was found is of this one, and so of one of those
pub some_mapped : {C X Y : Type 0} (P : C → Y → Type 0) (f : X → Y) (xs : List X) (i : ℕ) (d : X) (found : Option C)
    → i < length xs → IfSome found (λ one. P one (f (get_or xs i d))) → IfSome found (λ one. Any (P one) (map f xs))
some_mapped P f xs i d None below holds = tt
some_mapped P f xs i d (Some one) below holds = any_mapped (P one) f xs i d below holds

-- where each says what is ours nothing is changed
pub none_changed : {C X : Type 0} (Of : C → X → Type 0) (Ours : X → Type 0)
    → ((one : C) (x : X) → Of one x → Ours x → ⊥) → (xs : List X) (all : List C)
    → All Ours xs → All (λ one. Any (Of one) xs) all → all ≡ []
none_changed Of Ours clash xs [] ours of = refl
none_changed Of Ours clash xs (one ∷ more) ours of =
    let (k, x, below, is, so) = of 0 one (omega (arith)) in
    absurd (clash one x so (subst Ours is (ours k x below)))
