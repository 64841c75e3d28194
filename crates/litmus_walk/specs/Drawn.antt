-- Which walk a seed draws.
use Rattle.std.specs.Prelude.{◌≡◌, ◌≢◌, ◌⊎◌, ℕ, ◌==◌, ◌%◌, ◌≤◌, if◌then◌else◌, List, [], ◌∷◌, ◌++◌, length, All}
use Rattle.std.specs.Prelude.{replicate, slice_get, Option, Some, false}
use Rattle.std.specs.List.{list_any}
use Rattle.address_map.specs.Place.{line_of as line_of_word}
use Rattle.address_map.specs.declared.address.LineAddr.{LineAddr}
use Rattle.litmus_test.specs.declared.test.Action.{Action}
use Rattle.litmus_test.specs.declared.test.Action.TheVariants as actions
use Rattle.litmus_test.specs.declared.test.LitmusTest.{LitmusTest}
use Rattle.litmus_test.specs.declared.test.Thread.{Thread}
use Rattle.litmus_walk.specs.Done.{AreAtEnd, steps_of}
use Rattle.litmus_walk.specs.Moves.{Goes, WalkState, moves_of}
use Rattle.litmus_walk.specs.Walk.{IsFresh, WalkView}
use Rattle.litmus_walk.specs.declared.moves.Move.{Move}
use Rattle.litmus_walk.specs.declared.place.Place.{Place}
use Rattle.litmus_walk.specs.declared.round.End.{End}
use Rattle.litmus_walk.specs.declared.round.End.TheVariants as ends
use Rattle.mshr_file.specs.Miss.{Bound}
use Rattle.rand_xoshiro.specs.SplitMix64.{splitmix_seed}
use Rattle.rand_xoshiro.specs.Xoshiro256.{of_seed, plus_plus}
use Rattle.slice_core_spec.specs.View.{IsQuiet}

-- one more line, if it isn't among them yet
abbrev pub with_line : List LineAddr → LineAddr → List LineAddr
with_line lines line = if list_any (λ other. other.0 == line.0) lines then lines else (lines ++ line ∷ [])

abbrev pub with_lines : List LineAddr → List Action → List LineAddr
with_lines lines [] = lines
with_lines lines (actions.Access word op ∷ steps) = with_lines (with_line lines (line_of_word word)) steps
with_lines lines (actions.Evict line ∷ steps) = with_lines (with_line lines line) steps
with_lines lines (actions.Settle ∷ steps) = with_lines lines steps

-- the lines that the threads name, each once, in the order of their first mention
abbrev pub named_lines : List LineAddr → List Thread → List LineAddr
named_lines lines [] = lines
named_lines lines (thread ∷ threads) = named_lines (with_lines lines thread.steps.items) threads

abbrev pub lines_of : LitmusTest → List LineAddr
lines_of test = named_lines [] test.threads.items

-- the move that a word draws, each with equal probability
abbrev pub drawn_move : ℕ → List Move → Option Move
drawn_move word moves = slice_get moves (word % length moves)

-- These moves are made, one after another. Each is drawn from those that may come next, by the generator's next word.
abbrev pub MakesAll : List Thread → List LineAddr → List ℕ → List Move → WalkState → WalkState → Type 0
MakesAll threads lines generator [] old new = new ≡ old
MakesAll threads lines generator (to ∷ more) old new =
    (next : WalkState) × (drawn_move (plus_plus generator).0 (moves_of threads lines old) ≡ Some to)
    × Goes threads to old next × MakesAll threads lines (plus_plus generator).1 more next new

-- the moves that the seed draws are made: `most` of them, or fewer if then none may come next
pub record Draws (threads : List Thread) (lines : List LineAddr) (seed most : ℕ) (old new : WalkState) : Type 0 where
  pub steps : List Move
  pub made : MakesAll threads lines (of_seed (splitmix_seed 32 seed)) steps old new
  pub at_most : length steps ≤ most
  pub ended : (moves_of threads lines new ≡ []) ⊎ (length steps ≡ most)

-- before the first step of a thread
abbrev pub first_place : Place
first_place = record { step = 0; waits = replicate 64 false }

-- a new machine of the test, with each thread before its first step, and no waiting reply
pub record IsNewWalk (test : LitmusTest) (bound : Bound) (state : WalkState) : Type 0 where
  pub fresh : IsFresh test.config bound state.walk
  pub first : state.places ≡ replicate (length test.threads.items) first_place
  pub none : state.replies ≡ []

-- all threads are done, nothing is in flight and each reply was delivered to its core
abbrev pub IsOver : List Thread → WalkState → Type 0
IsOver threads state =
    AreAtEnd threads (steps_of state.places) × All (λ slice. IsQuiet slice.view) state.walk.slices

-- How a walk that goes no further ends: it is over, or no move may come next, or one may.
abbrev pub IsEnd : List Thread → List LineAddr → End → WalkState → Type 0
IsEnd threads lines ends.Over state = IsOver threads state
IsEnd threads lines ends.Stuck state = ¬ IsOver threads state × (moves_of threads lines state ≡ [])
IsEnd threads lines ends.GaveUp state = ¬ IsOver threads state × (moves_of threads lines state ≢ [])

-- The walk is what the seed draws, with at most `most` moves and messages for these lines, and ends so. If it gave up
-- it has made `most` moves, since some move may come next.
pub record IsDrawn (test : LitmusTest) (bound : Bound) (lines : List LineAddr) (seed most : ℕ) (end : End)
    (walk : WalkView) : Type 0 where
  pub start : WalkState
  pub new : IsNewWalk test bound start
  pub last : WalkState
  pub draws : Draws test.threads.items lines seed most start last
  pub is : walk ≡ last.walk
  pub ends : IsEnd test.threads.items lines end last
