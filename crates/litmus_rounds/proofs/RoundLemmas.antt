-- One more round, and more rounds after those that are done.
use Rattle.std.proofs.Common.{zero, suc, ◌≡◌, ◌⊎◌, ◌+◌, ◌<◌, ◌≤◌, ℕ, List, [], ◌∷◌, ◌++◌, ap, refl, length, length-append, get_or, sym, subst}
use Rattle.std.proofs.Common.{arith, inl, inr, ◌∙◌}
use Rattle.std.proofs.Math.ListN.{get_or-append}
use Rattle.std.proofs.Math.Seq.{get_or-append_seam}
use Rattle.std.proofs.lemmas.Bool.{cases_lt}
use native.Mathlib.Nat.{mul-le-mul_right, suc-mul}
use Rattle.std.specs.Prelude.{◌≢◌, ◌*◌, ◌^◌, slice_get, Some}
use Rattle.std.proofs.lemmas.Bool.Decides.{nat_tests}
use Rattle.litmus_test.specs.Table.{IsTableOf, TableView}
use Rattle.litmus_test.specs.Ended.{ended_behind, round_of}
use Rattle.litmus_test.specs.declared.outcomes.ended.Ended.{Ended}
use Rattle.litmus_test.specs.declared.outcomes.ended.Ended.TheVariants as ended_kinds
use Rattle.litmus_rounds.specs.Run.{AreRounds, GivesUp, HaveEnded, IsRound, IsStuck, seed_of, status_of}
use Rattle.litmus_test.specs.declared.test.LitmusTest.{LitmusTest}
use Rattle.litmus_walk.proofs.DoneLemmas.{found, item-at}
use Rattle.mshr_file.specs.Miss.{Bound}

-- no round
pub no_rounds : (test : LitmusTest) (bound : Bound) (seed most : ℕ) (table : TableView) → IsTableOf [] table
    → AreRounds test bound seed most 0 table
no_rounds test bound seed most table none = record {
  rounds = [];
  table_of = none;
  counted = refl;
  each = λ round values is. let (below, same) = found [] round values is in absurd (omega (arith, below));
}

pub rounds_push : (test : LitmusTest) (bound : Bound) (seed most count : ℕ) (old new : TableView) (outcome : List ℕ)
    → AreRounds test bound seed most count old → IsRound test bound (seed_of seed count) most outcome
    → ((rounds : List (List ℕ)) → IsTableOf rounds old → IsTableOf (rounds ++ outcome ∷ []) new)
    → AreRounds test bound seed most (count + 1) new
rounds_push test bound seed most count old new outcome are one grows = record {
  rounds = are.rounds ++ outcome ∷ [];
  table_of = grows are.rounds are.table_of;
  counted = length-append are.rounds (outcome ∷ []) ∙ ap (λ n. n + 1) are.counted;
  each = λ round values is.
      let (below, same) = found (are.rounds ++ outcome ∷ []) round values is in
      elim (cases_lt round (length are.rounds)) [
        | inl before ↦
            are.each round values
            (item-at are.rounds round values before
            (sym same ∙ get_or-append are.rounds (outcome ∷ []) values round before))
        | inr last ↦
            let at : round ≡ length are.rounds = omega (arith, simp length-append at below) in
            let its : outcome ≡ values =
            sym (get_or-append_seam are.rounds outcome [] values)
            ∙ ap (λ k. get_or (are.rounds ++ outcome ∷ []) k values) (sym at) ∙ same in
            subst (λ k. IsRound test bound (seed_of seed k) most values) (sym (at ∙ are.counted))
            (subst (IsRound test bound (seed_of seed count) most) its one)
      ];
}

-- a round is one of the first, or of those after them
in_parts : (rounds more : List (List ℕ)) (k : ℕ) (values : List ℕ) → slice_get (rounds ++ more) k ≡ Some values
    → (slice_get rounds k ≡ Some values) ⊎ ((j : ℕ) × (k ≡ length rounds + j) × (slice_get more j ≡ Some values))
in_parts [] more k values is = inr (k, omega arith, is)
in_parts (round ∷ rounds) more zero values is = inl is
in_parts (round ∷ rounds) more (suc k) values is = elim (in_parts rounds more k values is) [
  | inl here ↦ inl here
  | inr (j, at, there) ↦ inr (j, omega (arith, at), there)
]

-- the seed of a round is counted on from that of another
pub seed_behind : (seed count round : ℕ) → seed_of (seed_of seed count) round ≡ seed_of seed (count + round)
seed_behind seed count round = omega arith

-- adding a table of the rounds after those of `old` gives `new`
abbrev pub Behind : ℕ → (old other new : TableView) → Type 0
Behind count old other new =
    (rounds more : List (List ℕ)) → count ≡ length rounds → IsTableOf rounds old → IsTableOf more other
    → IsTableOf (rounds ++ more) new

module _ (test : LitmusTest) (bound : Bound) (seed most count : ℕ) (old other new : TableView) where
  -- rounds, and those after them
  pub rounds_behind : (more : ℕ) → AreRounds test bound seed most count old
      → AreRounds test bound (seed_of seed count) most more other → Behind count old other new
      → AreRounds test bound seed most (count + more) new
  rounds_behind more are others behind = record {
    rounds = are.rounds ++ others.rounds;
    table_of = behind are.rounds others.rounds (sym are.counted) are.table_of others.table_of;
    counted = omega (arith, length-append are.rounds others.rounds, are.counted, others.counted);
    each = λ round values is. elim (in_parts are.rounds others.rounds round values is) [
      | inl here ↦ are.each round values here
      | inr (j, at, there) ↦
          let same : seed_of (seed_of seed count) j ≡ seed_of seed round =
          seed_behind seed count j ∙ ap (seed_of seed) (omega (arith, at, are.counted)) in
          subst (λ s. IsRound test bound s most values) same (others.each j values there)
    ];
  }

  -- how they end, together
  pub all_ended : (more : ℕ) (ended : Ended) → AreRounds test bound seed most count old
      → HaveEnded test bound (seed_of seed count) most more other ended → Behind count old other new
      → HaveEnded test bound seed most (count + more) new (ended_behind count ended)
  all_ended more ended_kinds.Done are others behind = rounds_behind more are others behind
  all_ended more (ended_kinds.Stuck round) are (below, others, stuck) behind = (
    omega (arith, below),
    rounds_behind round are others behind,
    subst (λ s. IsStuck test bound s most) (seed_behind seed count round) stuck,
  )
  all_ended more (ended_kinds.GaveUp round) are (below, others, given_up) behind = (
    omega (arith, below),
    rounds_behind round are others behind,
    subst (λ s. GivesUp test bound s most) (seed_behind seed count round) given_up,
  )

-- a table has no more rounds than there are, and the round that has no outcome is one of them
pub ended_fits : (test : LitmusTest) (bound : Bound) (seed most count : ℕ) (table : TableView) (ended : Ended)
    → HaveEnded test bound seed most count table ended → (table.rounds ≤ count) × (round_of ended ≤ count)
ended_fits test bound seed most count table ended_kinds.Done are =
    (omega (arith, are.table_of.count, are.counted), omega arith)
ended_fits test bound seed most count table (ended_kinds.Stuck round) (below, are, stuck) =
    (omega (arith, are.table_of.count, are.counted, below), omega (arith, below))
ended_fits test bound seed most count table (ended_kinds.GaveUp round) (below, are, given_up) =
    (omega (arith, are.table_of.count, are.counted, below), omega (arith, below))

-- rounds after one that has no outcome change nothing
pub ended_early : (test : LitmusTest) (bound : Bound) (seed most count more : ℕ) (table : TableView) (ended : Ended)
    → HaveEnded test bound seed most count table ended → ended ≢ ended_kinds.Done → count ≤ more
    → HaveEnded test bound seed most more table ended
ended_early test bound seed most count more table ended_kinds.Done are not_done within = absurd (not_done refl)
ended_early test bound seed most count more table (ended_kinds.Stuck round) (below, are, stuck) not_done within =
    (omega (arith, below, within), are, stuck)
ended_early test bound seed most count more table (ended_kinds.GaveUp round) (below, are, given_up) not_done within =
    (omega (arith, below, within), are, given_up)

-- the rounds of a place are among those of all places
pub place_fits : (done place jobs share : ℕ) → place < jobs → done + jobs * share < 2 ^ 64
    → done + place * share + share ≤ done + jobs * share
place_fits done place jobs share below fits =
    let more : suc place * share ≤ jobs * share = mul-le-mul_right {m = suc place} {n = jobs} share (omega (arith, below)) in
    omega (arith, more, suc-mul place share)

pub next_place : (done place share : ℕ) → done + place * share + share ≡ done + (place + 1) * share
next_place done place share =
    let next : suc place ≡ place + 1 = omega arith in
    omega (arith, suc-mul place share, ap (λ n. n * share) next)

-- the status if no round had a forbidden outcome, and if one had
pub told_none : (n : ℕ) → n ≡ 0 → 0 ≡ status_of n
told_none n none = grind (arith, nat_tests)

pub told_some : (n : ℕ) → n ≢ 0 → 1 ≡ status_of n
told_some n some = grind (arith, nat_tests)
