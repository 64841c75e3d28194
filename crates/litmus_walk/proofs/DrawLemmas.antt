-- How a walk goes on, move by move.
use Rattle.std.proofs.Common.{◌≡◌, ◌⊎◌, ℕ, ◌+◌, ◌≤◌, List, [], ◌∷◌, length, Some, arith, inl, inr, refl}
use Rattle.std.proofs.Common.{subst, ◌∙◌}
use Rattle.address_map.specs.declared.address.LineAddr.{LineAddr}
use Rattle.litmus_test.specs.declared.test.Thread.{Thread}
use Rattle.rand_xoshiro.specs.SplitMix64.{splitmix_seed}
use Rattle.rand_xoshiro.specs.Xoshiro256.{of_seed, plus_plus}
use Rattle.litmus_walk.specs.Drawn.{Draws, MakesAll, drawn_move}
use Rattle.litmus_walk.specs.Moves.{Goes, WalkState, moves_of}
use Rattle.litmus_walk.specs.declared.moves.Move.{Move}

-- `count` moves were made, which took the generator from `first` to `last`: moves after them continue from there
abbrev pub HasMade : List Thread → List LineAddr → List ℕ → List ℕ → ℕ → WalkState → WalkState → Type 0
HasMade threads lines first last count old new =
    (end : WalkState) (more : List Move) → MakesAll threads lines last more new end
    → (all : List Move) × MakesAll threads lines first all old end × (length all ≡ count + length more)

-- no move was made
pub made_none : (threads : List Thread) (lines : List LineAddr) (generator : List ℕ) (state : WalkState)
    → HasMade threads lines generator generator 0 state state
made_none threads lines generator state = λ end more makes. (more, makes, omega arith)

-- one more after the others
pub made_more : (threads : List Thread) (lines : List LineAddr) (first last after : List ℕ) (count : ℕ)
    (start now next : WalkState) (to : Move)
    → HasMade threads lines first last count start now
    → drawn_move (plus_plus last).0 (moves_of threads lines now) ≡ Some to
    → after ≡ (plus_plus last).1
    → Goes threads to now next
    → HasMade threads lines first after (count + 1) start next
made_more threads lines first last after count start now next to made draws on goes = λ end more then.
    let behind = subst (λ g. MakesAll threads lines g more next end) on then in
    let (all, makes, counted) = made end (to ∷ more) (next, draws, goes, behind) in
    (all, makes, counted ∙ omega arith)

-- no move may come next, or `most` moves were made
pub all_made : (threads : List Thread) (lines : List LineAddr) (seed most count : ℕ) (last : List ℕ)
    (start end : WalkState)
    → HasMade threads lines (of_seed (splitmix_seed 32 seed)) last count start end
    → count ≤ most
    → (moves_of threads lines end ≡ []) ⊎ (count ≡ most)
    → Draws threads lines seed most start end
all_made threads lines seed most count last start end made at_most ended =
    let (steps, makes, counted) = made end [] refl in record {
      steps = steps;
      made = makes;
      at_most = omega (arith, counted, at_most);
      ended = elim ended [
        | inl none ↦ inl none
        | inr all ↦ inr (omega (arith, counted, all))
      ];
    }
