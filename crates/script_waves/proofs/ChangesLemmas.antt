-- Lines of values, one after another.
use Rattle.std.proofs.Common.{◌≡◌, ℕ, List, [], ◌∷◌, ◌++◌, Option, Some, None, drop, option_map, refl, subst}
use Rattle.std.proofs.KnownBytes.{Appends-trans}
use Rattle.std.specs.Borrow.{Bor}
use Rattle.std.specs.Io.KnownBytes.{Appends}
use Rattle.std.specs.List.{slice_get}
use Rattle.std.specs.Prelude.{MatchOption}
use Rattle.script_waves.specs.Changes.{change_of, changes}

-- what an iterator yields is the first of what is left
pub first_left : (old new : List (List ℕ)) (r : Option (Bor (List ℕ)))
    → MatchOption r ((old ≡ []) × (new ≡ [])) (λ x. old ≡ x.now ∷ new)
    → (option_map (λ (line : Bor (List ℕ)). line.now) r ≡ slice_get old 0) × (new ≡ drop 1 old)
first_left old new None none = rw (none.0, none.1) (refl, refl)
first_left old new (Some x) some = rw some (refl, refl)

-- the change of the first line, and then those of the lines after it
pub change_written : (before rest : List (List ℕ)) (told : Option (List ℕ)) (value : List ℕ) (more : List (List ℕ))
    (a b c : Option (List ℕ)) → told ≡ slice_get before 0 → rest ≡ drop 1 before → Appends a b (change_of told value)
    → Appends b c (changes rest more) → Appends a c (changes before (value ∷ more))
change_written before rest told value more a b c first left one others =
    Appends-trans a b c (change_of (slice_get before 0) value) _
    (subst (λ (t : Option (List ℕ)). Appends a b (change_of t value)) first one)
    (subst (λ (xs : List (List ℕ)). Appends b c (changes xs more)) left others)
