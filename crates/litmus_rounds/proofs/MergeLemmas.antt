-- Parts that are joined.
use Rattle.std.proofs.Common.{◌≡◌, ◌⊎◌, ℕ, ◌+◌, List, [], ◌∷◌, ◌++◌, arith, inl, inr, refl, subst, sym, ◌∙◌}
use Rattle.std.specs.Prelude.{◌≢◌, All}
use Rattle.std.proofs.lemmas.List.Elements.{All-head}
use Rattle.litmus_test.proofs.Between.{All-back, All-front}
use Rattle.litmus_test.specs.declared.outcomes.ended.Ended.{Ended}
use Rattle.litmus_test.specs.declared.outcomes.ended.Ended.TheVariants as ended_kinds
use Rattle.litmus_rounds.specs.declared.part.Part.{Part}
use Rattle.litmus_rounds.specs.Merge.{AddsRounds, IsMergeOf, MayFollow, MissesTo}
use Rattle.litmus_rounds.specs.Parts.{IsPartOf}
use Rattle.litmus_rounds.specs.Run.{HaveEnded, seed_of}
use Rattle.litmus_rounds.specs.declared.merge.Merged.{Merged}
use Rattle.litmus_rounds.proofs.RoundLemmas.{all_ended, ended_early}

-- either all rounds have an outcome or one has none
done_or_not : (ended : Ended) → (ended ≡ ended_kinds.Done) ⊎ (ended ≢ ended_kinds.Done)
done_or_not ended_kinds.Done = inl refl
done_or_not (ended_kinds.Stuck round) = inr (λ is. cc)
done_or_not (ended_kinds.GaveUp round) = inr (λ is. cc)

-- one more part, whose first round is the next
pub merge_next : (parts : List Part) (part : Part) (from : ℕ) (old mid new : Merged) → IsMergeOf parts old
    → MayFollow old part from → MissesTo from old mid → AddsRounds from part mid new
    → IsMergeOf (parts ++ part ∷ []) new
merge_next parts part from old mid new is follows misses adds gapless test bound all =
    let Is : Part → Type 0 = IsPartOf test bound in
    let no_gap = sym adds.gaps ∙ gapless in
    let at : from ≡ old.count = misses.none_here no_gap in
    let one : IsPartOf test bound part = All-head Is part [] (All-back Is parts (part ∷ []) all) in
    let before : HaveEnded test bound new.seed new.most from mid.outcomes mid.ended =
    rw (adds.seed ∙ misses.seed, adds.most ∙ misses.most, at, misses.outcomes, misses.ended)
    (is (misses.none_before no_gap) test bound (All-front Is parts (part ∷ []) all)) in
    let behind : HaveEnded test bound (seed_of new.seed from) new.most part.count part.outcomes part.ended =
    rw (adds.seed ∙ misses.seed, adds.most ∙ misses.most)
    (subst (λ s. HaveEnded test bound s old.most part.count part.outcomes part.ended) follows.at
    (subst (λ m. HaveEnded test bound part.seed m part.count part.outcomes part.ended) follows.most one)) in
    elim (done_or_not mid.ended) [
      | inl done ↦
          rw (adds.count, adds.ended done)
          (all_ended test bound new.seed new.most from mid.outcomes part.outcomes new.outcomes part.count part.ended
          (subst (HaveEnded test bound new.seed new.most from mid.outcomes) done before) behind (adds.added done))
      | inr not_done ↦
          rw (adds.count, adds.table_kept not_done, adds.ended_kept not_done)
          (ended_early test bound new.seed new.most from (from + part.count) mid.outcomes mid.ended before not_done
          (omega arith))
    ]

-- noting missing rounds adds no part
pub merge_missed : (parts : List Part) (from : ℕ) (old new : Merged) → IsMergeOf parts old → MissesTo from old new
    → IsMergeOf parts new
merge_missed parts from old new is misses gapless test bound all =
    rw (misses.seed, misses.most, misses.count, misses.outcomes, misses.ended)
    (is (misses.none_before gapless) test bound all)
