-- Cores of a set, ascending.
use Rattle.std.specs.Prelude.{ℕ, List, [], ◌∷◌, ◌++◌, codes, decimal}
use Rattle.std.specs.List.{flat_map}

-- these cores, each after a comma
abbrev pub further_cores : List ℕ → List ℕ
further_cores cores = flat_map (λ core. codes "," ++ decimal core) cores

-- these cores with commas between them, or a dash if there is none
abbrev pub text_of_cores : List ℕ → List ℕ
text_of_cores [] = codes "-"
text_of_cores (core ∷ cores) = decimal core ++ further_cores cores

-- an invalidation to each of these cores, after another message
abbrev pub text_of_invalidations : List ℕ → List ℕ
text_of_invalidations cores = flat_map (λ core. codes ", Inv to core " ++ decimal core) cores
