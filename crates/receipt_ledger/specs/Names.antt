-- Which configuration's words a slice counts, and which ledgers its ten are.
use Rattle.std.specs.Prelude.{◌≡◌, ℕ, ◌<◌, ◌≤◌, List, length, slice_index_or}
use Rattle.address_map.specs.declared.address.WordAddr.{WordAddr}
use Rattle.address_map.specs.declared.config.Config.{Config}
use Rattle.address_map.specs.Place.{counters_of}
use Rattle.address_map.specs.Words.{IsAscendingBy}

-- the words are the counters of that slice: no more than eight, each named once
pub record AreCounters (c : Config) (number : ℕ) (words : List WordAddr) : Type 0 where
  pub are : words ≡ counters_of c number
  pub few : length words ≤ 8
  pub ascending : IsAscendingBy (λ word. word.0) words

-- ten ledgers that no type represents yet: their names in order, and how many parts each has
pub record Unopened : Type 0 where
  pub names : List ℕ
  pub parts : ℕ

-- each ledger's name is the one that is given for its place
abbrev pub AreNamed : (ℕ → ℕ) → List ℕ → Type 0
AreNamed names given = (place : ℕ) → place < length given → names place ≡ slice_index_or given place 0

-- ten ledgers of a slice: their names are those, and each has one part for each core
pub record AreLedgersOf (c : Config) (names : ℕ → ℕ) (blanks : Unopened) : Type 0 where
  pub named : AreNamed names blanks.names
  pub parts : blanks.parts ≡ c.cores
