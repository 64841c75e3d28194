-- Parts joined.
use Rattle.std.specs.Prelude.{◌≡◌, ◌≢◌, ℕ, ◌+◌, ◌≤◌, ◌<◌, ◌^◌, List, [], ◌++◌, length, All}
use Rattle.litmus_test.specs.Ended.{ended_behind, round_of}
use Rattle.litmus_test.specs.Table.{IsTableOf}
use Rattle.litmus_test.specs.declared.outcomes.ended.Ended.TheVariants as ended_kinds
use Rattle.litmus_rounds.specs.Parts.{IsPartOf}
use Rattle.litmus_rounds.specs.Run.{HaveEnded, seed_of}
use Rattle.litmus_rounds.specs.declared.merge.Merged.{Merged}
use Rattle.litmus_rounds.specs.declared.part.Part.{Part}
use Rattle.litmus_test.specs.declared.test.LitmusTest.{LitmusTest}
use Rattle.mshr_file.specs.Miss.{Bound}

-- Parts in order are joined: if no round is missing, and each part is what its rounds are, this is the table of all
-- rounds, and how they ended.
abbrev pub IsMergeOf : List Part → Merged → Type 0
IsMergeOf parts merged =
    merged.gaps.items ≡ [] → (test : LitmusTest) (bound : Bound) → All (IsPartOf test bound) parts
    → HaveEnded test bound merged.seed merged.most merged.count merged.outcomes merged.ended

-- the part may come next, and begins with the round of this number
pub record MayFollow (merged : Merged) (part : Part) (from : ℕ) : Type 0 where
  pub at : part.seed ≡ seed_of merged.seed from
  pub most : part.most ≡ merged.most
  pub behind : merged.count ≤ from
  pub fits : from + part.count < 2 ^ 64
  pub rounds : merged.outcomes.rounds + part.outcomes.rounds < 2 ^ 64
  pub round : round_of part.ended ≤ part.count

-- the rounds before this one that are missing are noted
pub record MissesTo (from : ℕ) (old new : Merged) : Type 0 where
  pub seed : new.seed ≡ old.seed
  pub most : new.most ≡ old.most
  pub count : new.count ≡ old.count
  pub outcomes : new.outcomes ≡ old.outcomes
  pub ended : new.ended ≡ old.ended
  pub none_before : new.gaps.items ≡ [] → old.gaps.items ≡ []
  pub none_here : new.gaps.items ≡ [] → from ≡ old.count

-- the rounds of a part are added, if each round before them has an outcome
pub record AddsRounds (from : ℕ) (part : Part) (old new : Merged) : Type 0 where
  pub seed : new.seed ≡ old.seed
  pub most : new.most ≡ old.most
  pub gaps : new.gaps.items ≡ old.gaps.items
  pub count : new.count ≡ from + part.count
  pub ended : old.ended ≡ ended_kinds.Done → new.ended ≡ ended_behind from part.ended
  pub added : old.ended ≡ ended_kinds.Done → (rounds more : List (List ℕ)) → from ≡ length rounds
      → IsTableOf rounds old.outcomes → IsTableOf more part.outcomes → IsTableOf (rounds ++ more) new.outcomes
  pub ended_kept : old.ended ≢ ended_kinds.Done → new.ended ≡ old.ended
  pub table_kept : old.ended ≢ ended_kinds.Done → new.outcomes ≡ old.outcomes
