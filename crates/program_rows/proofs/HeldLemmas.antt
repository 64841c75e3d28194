-- Counts that are compared.
use Rattle.std.proofs.Common.{◌≡◌, ℕ, Bool, true, false, not, List, Option, Some, None, refl, ap, nat_eq}
use Rattle.std.proofs.lemmas.Slice.Eq.{slice_eq-Decides}
use Rattle.std.specs.Bool.{Decides}
use Rattle.std.specs.Cmp.{unsigned_Decides}
use Rattle.std.specs.Cmp.Lexicographic.{pointwise}
use Rattle.std.specs.Option.{option_eq}

pub count_Decides : (x y : Option ℕ) → Decides (option_eq nat_eq x y) (x ≡ y)
count_Decides None None = (λ h. refl, λ e. refl)
count_Decides None (Some y) = (λ h. cc, λ e. cc)
count_Decides (Some x) None = (λ h. cc, λ e. cc)
count_Decides (Some x) (Some y) = let d = unsigned_Decides x y in (λ h. ap (λ (n : ℕ). Some n) (d.0 h), λ e. let same : x ≡ y = cc in d.1 same)

pub true_from_not : (b : Bool) → false ≡ not b → b ≡ true
true_from_not true e = refl
true_from_not false e = cc

-- what a test of two rows' counts has shown
pub same_counts : (xs ys : List (Option ℕ)) → false ≡ not (pointwise (option_eq nat_eq) xs ys) → xs ≡ ys
same_counts xs ys e =
    (slice_eq-Decides count_Decides xs ys (pointwise (option_eq nat_eq) xs ys) refl).0 (true_from_not (pointwise (option_eq nat_eq) xs ys) e)
