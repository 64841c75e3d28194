-- Lists of words: in order, in range, and the values that memory begins with.
use Rattle.std.specs.Prelude.{ℕ, Bool, true, List, [], ◌∷◌, ◌==◌, ◌&&◌, ◌<◌, nat_lt, find, AllPairs}
use Rattle.std.specs.Option.{option_map_or}
use Rattle.std.specs.List.{list_all}
use Rattle.address_map.specs.declared.address.WordAddr.{WordAddr}

-- whether the number of each element is below that of the next
abbrev pub is_ascending_by : {X : Type 0} → (X → ℕ) → List X → Bool
is_ascending_by number [] = true
is_ascending_by number (x ∷ []) = true
is_ascending_by number (x ∷ y ∷ xs) = nat_lt (number x) (number y) && is_ascending_by number (y ∷ xs)

-- the number of each element is below those of all later ones
abbrev pub IsAscendingBy : {X : Type 0} → (X → ℕ) → List X → Type 0
IsAscendingBy number xs = AllPairs (λ first later. number first < number later) xs

-- whether the elements' words ascend strictly, and lie below the limit
abbrev pub are_words_below : {X : Type 0} → (X → ℕ) → ℕ → List X → Bool
are_words_below word limit xs = is_ascending_by word xs && list_all (λ x. nat_lt (word x) limit) xs

-- the value that a word begins with: the one that is paired with it, and 0 where it isn't named
abbrev pub initial_value : List (WordAddr × ℕ) → WordAddr → ℕ
initial_value init word = option_map_or (λ pair. pair.1) (find (λ pair. pair.0.0 == word.0) init) 0
