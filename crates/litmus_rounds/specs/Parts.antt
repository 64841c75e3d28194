-- A walk in parts, and parts joined.
use Rattle.std.specs.Prelude.{◌≡◌, ◌≢◌, ◌⊎◌, ℕ, ◌<◌, ◌≤◌, List, length, take, sum_by, slice_index_or, All, Any, Option}
use Rattle.std.specs.Io.KnownBytes.{Appends}
use Rattle.litmus_test.specs.declared.outcomes.ended.Ended.{Ended}
use Rattle.litmus_test.specs.declared.outcomes.ended.Ended.TheVariants as ended_kinds
use Rattle.litmus_rounds.specs.PartForm.{text_of_part, text_of_parts}
use Rattle.litmus_rounds.specs.Run.{HaveEnded, seed_of}
use Rattle.litmus_rounds.specs.declared.part.Part.{Part}
use Rattle.litmus_test.specs.declared.test.LitmusTest.{LitmusTest}
use Rattle.mshr_file.specs.Miss.{Bound}

-- the part is what its rounds are
abbrev pub IsPartOf : LitmusTest → Bound → Part → Type 0
IsPartOf test bound part = HaveEnded test bound part.seed part.most part.count part.outcomes part.ended

-- what its first line says
pub record IsPartWith (sum most seed count : ℕ) (part : Part) : Type 0 where
  pub of_test : part.sum ≡ sum
  pub limited : part.most ≡ most
  pub begins : part.seed ≡ seed
  pub many : part.count ≡ count

-- a part of `count` rounds is printed, which ended so
pub record IsPrintedPart (test : LitmusTest) (bound : Bound) (sum count seed most : ℕ) (before after : Option (List ℕ))
    (ended : Ended) : Type 0 where
  pub part : Part
  pub is : IsPartOf test bound part
  pub with : IsPartWith sum most seed count part
  pub ends : part.ended ≡ ended
  pub printed : Appends before after (text_of_part part)

-- the number of rounds of parts
abbrev pub count_of_parts : List Part → ℕ
count_of_parts parts = sum_by (λ part. part.count) parts

-- parts of `count` consecutive rounds, the first with the seed: each is what its rounds are, and begins where the one
-- before it ends
pub record AreParts (test : LitmusTest) (bound : Bound) (sum count seed most : ℕ) (parts : List Part) : Type 0 where
  pub each : All (IsPartOf test bound) parts
  pub with : (k : ℕ) (d : Part) → k < length parts
      → IsPartWith sum most (seed_of seed (count_of_parts (take k parts))) (slice_index_or parts k d).count
      (slice_index_or parts k d)
  pub counted : count_of_parts parts ≡ count

-- parts of `count` rounds are printed
pub record ArePrinted (test : LitmusTest) (bound : Bound) (sum count seed most : ℕ) (before after : Option (List ℕ)) :
    Type 0 where
  pub parts : List Part
  pub are : AreParts test bound sum count seed most parts
  pub printed : Appends before after (text_of_parts parts)

-- .. of all rounds, or of those up to one that has no outcome
pub record PrintsParts (test : LitmusTest) (bound : Bound) (sum count seed most : ℕ) (before after : Option (List ℕ)) :
    Type 0 where
  pub done : ℕ
  pub within : done ≤ count
  pub printed : ArePrinted test bound sum done seed most before after
  pub whole : (done ≡ count) ⊎ Any (λ part. part.ended ≢ ended_kinds.Done) printed.parts
