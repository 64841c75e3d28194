-- How rounds end, if others come before them.
use Rattle.std.specs.Prelude.{ℕ, ◌+◌}
use Rattle.litmus_test.specs.declared.outcomes.ended.Ended.{Ended}
use Rattle.litmus_test.specs.declared.outcomes.ended.Ended.TheVariants as ended_kinds

-- the number of the round that has no outcome
abbrev pub round_of : Ended → ℕ
round_of ended_kinds.Done = 0
round_of (ended_kinds.Stuck round) = round
round_of (ended_kinds.GaveUp round) = round

-- the same after `rounds` other rounds
abbrev pub ended_behind : ℕ → Ended → Ended
ended_behind rounds ended_kinds.Done = ended_kinds.Done
ended_behind rounds (ended_kinds.Stuck round) = ended_kinds.Stuck (rounds + round)
ended_behind rounds (ended_kinds.GaveUp round) = ended_kinds.GaveUp (rounds + round)
