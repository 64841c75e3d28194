-- The rounds of a litmus test without threads, and what they print.
use Rattle.std.specs.Prelude.{◌≡◌, ◌⊎◌, ℕ, ◌+◌, ◌*◌, ◌%◌, ◌^◌, ◌<◌, List, length, All}
use Rattle.std.specs.Prelude.{count_by, nat_eq, if◌then◌else◌, slice_get, slice_index_or, IfOk, Option, Result, Some}
use Rattle.std.specs.declared.alloc.AllocError.{AllocError}
use Rattle.std.specs.Io.KnownBytes.{Appends}
use Rattle.litmus_test.specs.Forbid.{is_forbidden}
use Rattle.litmus_test.specs.Table.{IsTableOf, TableView}
use Rattle.litmus_rounds.specs.Outcome.{IsOutcome}
use Rattle.litmus_test.specs.declared.outcomes.ended.Ended.{Ended}
use Rattle.litmus_test.specs.declared.outcomes.ended.Ended.TheVariants as ended_kinds
use Rattle.litmus_rounds.specs.declared.batch.Batch.{Batch}
use Rattle.litmus_rounds.specs.declared.stretch.Stretch.{Stretch}
use Rattle.litmus_test.specs.declared.test.LitmusTest.{LitmusTest}
use Rattle.litmus_walk.specs.Done.{AreDone}
use Rattle.litmus_walk.specs.Drawn.{IsDrawn, lines_of}
use Rattle.litmus_walk.specs.Walk.{IsWalkOf, WalkView}
use Rattle.litmus_walk.specs.declared.round.End.{End}
use Rattle.litmus_walk.specs.declared.round.End.TheVariants as ends
use Rattle.mshr_file.specs.Miss.{Bound}
use Rattle.litmus_test.specs.Form.{text_of_gave_up, text_of_outcomes, text_of_stuck}
use Rattle.litmus_test.specs.declared.outcomes.form.OutcomeForm.{OutcomeForm}
use Rattle.slice_core_spec.specs.View.{IsQuiet}

-- the values are the outcome of the walk that the seed draws on a new machine of the test, with at most `most` moves,
-- in which each thread has done all its steps, and after which all slices are quiet
pub record IsRound (test : LitmusTest) (bound : Bound) (seed most : ℕ) (values : List ℕ) : Type 0 where
  pub walk : WalkView
  pub walked : IsWalkOf test bound walk
  pub drawn : IsDrawn test bound (lines_of test) seed most ends.Over walk
  pub done : AreDone test.threads.items walk.calls
  pub quiet : All (λ state. IsQuiet state.view) walk.slices
  pub outcome : IsOutcome test walk.slices values

-- the seed of a round, if the first round has this one
abbrev pub seed_of : ℕ → ℕ → ℕ
seed_of first round = (first + round) % 2 ^ 64

-- the table is that of `count` rounds: the first has the seed, and each the next
pub record AreRounds (test : LitmusTest) (bound : Bound) (seed most count : ℕ) (table : TableView) : Type 0 where
  pub rounds : List (List ℕ)
  pub table_of : IsTableOf rounds table
  pub counted : length rounds ≡ count
  pub each : (round : ℕ) (values : List ℕ) → slice_get rounds round ≡ Some values
      → IsRound test bound (seed_of seed round) most values

-- the exit status, if `count` rounds had a forbidden outcome
abbrev pub status_of : ℕ → ℕ
status_of count = if nat_eq count 0 then 0 else 1

-- the outcomes of `count` rounds are printed, the first with the seed; status 1 means that one had a forbidden outcome
pub record PrintsRounds (test : LitmusTest) (bound : Bound) (form : OutcomeForm) (count seed most status : ℕ)
    (before after : Option (List ℕ)) : Type 0 where
  pub table : TableView
  pub rounds : AreRounds test bound seed most count table
  pub printed : Appends before after (text_of_outcomes form test (Some seed) table.rows rounds.rounds)
  pub told : status ≡ status_of (count_by (is_forbidden test) rounds.rounds)

-- The walk that the seed draws isn't over and no move may come next, or it is over and has no outcome: a reply or a
-- counter's value is missing.
pub record IsStuck (test : LitmusTest) (bound : Bound) (seed most : ℕ) : Type 0 where
  pub walk : WalkView
  pub walked : IsWalkOf test bound walk
  pub end : End
  pub drawn : IsDrawn test bound (lines_of test) seed most end walk
  pub stuck : (end ≡ ends.Stuck) ⊎ ((end ≡ ends.Over) × ((values : List ℕ) → ¬ IsOutcome test walk.slices values))

-- The walk that the seed draws isn't over after `most` moves, and some move may come next.
pub record GivesUp (test : LitmusTest) (bound : Bound) (seed most : ℕ) : Type 0 where
  pub walk : WalkView
  pub walked : IsWalkOf test bound walk
  pub drawn : IsDrawn test bound (lines_of test) seed most ends.GaveUp walk

-- All `count` rounds ended well, with this table; or those before one that is stuck or is given up did.
abbrev pub HaveEnded : LitmusTest → Bound → (seed most count : ℕ) → TableView → Ended → Type 0
HaveEnded test bound seed most count table ended_kinds.Done = AreRounds test bound seed most count table
HaveEnded test bound seed most count table (ended_kinds.Stuck round) =
    (round < count) × AreRounds test bound seed most round table × IsStuck test bound (seed_of seed round) most
HaveEnded test bound seed most count table (ended_kinds.GaveUp round) =
    (round < count) × AreRounds test bound seed most round table × GivesUp test bound (seed_of seed round) most

-- a stretch of `count` rounds, the first with the seed
abbrev pub IsStretch : LitmusTest → Bound → (seed most count : ℕ) → Stretch → Type 0
IsStretch test bound seed most count stretch = HaveEnded test bound seed most count stretch.outcomes stretch.ended

-- the number of rounds of a batch
abbrev pub rounds_of : Batch → ℕ
rounds_of batch = batch.jobs * batch.share

-- the stretches of a batch, the first from the seed on, unless memory ran out
abbrev pub AreStretches : LitmusTest → Bound → (seed most : ℕ) → Batch → List (Result Stretch AllocError) → Type 0
AreStretches test bound seed most batch made =
    (place : ℕ) (d : Result Stretch AllocError) → place < batch.jobs
    → IfOk (slice_index_or made place d) (IsStretch test bound (seed_of seed (place * batch.share)) most batch.share)

-- one of `count` rounds is reported as stuck, which it is, and those before it ended well
pub record PrintsStuck (test : LitmusTest) (bound : Bound) (form : OutcomeForm) (count seed most status : ℕ)
    (before after : Option (List ℕ)) : Type 0 where
  pub round : ℕ
  pub one_of : round < count
  pub table : TableView
  pub others : AreRounds test bound seed most round table
  pub stuck : IsStuck test bound (seed_of seed round) most
  pub printed : Appends before after (text_of_stuck form round)
  pub told : status ≡ 1

-- .. or as given up, after `most` moves
pub record PrintsGaveUp (test : LitmusTest) (bound : Bound) (form : OutcomeForm) (count seed most status : ℕ)
    (before after : Option (List ℕ)) : Type 0 where
  pub round : ℕ
  pub one_of : round < count
  pub table : TableView
  pub others : AreRounds test bound seed most round table
  pub given_up : GivesUp test bound (seed_of seed round) most
  pub printed : Appends before after (text_of_gave_up form round most)
  pub told : status ≡ 1

-- what `count` rounds print: how often each outcome came, or which round is stuck or is given up
abbrev pub PrintsWalks : LitmusTest → Bound → OutcomeForm → (count seed most status : ℕ)
    → (before after : Option (List ℕ)) → Type 0
PrintsWalks test bound form count seed most status before after =
    PrintsRounds test bound form count seed most status before after
    ⊎ (PrintsStuck test bound form count seed most status before after
    ⊎ PrintsGaveUp test bound form count seed most status before after)
