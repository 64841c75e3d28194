-- What a test says of all states of a copy, it says of each: so a law over the states is proved by computing its test.
use Rattle.std.proofs.Common.{◌≡◌, ◌&&◌, Bool, true, arith}
use Rattle.cache_table.specs.declared.state.CopyState.{CopyState}
use Rattle.cache_table.specs.declared.state.CopyState.TheVariants as copy_states

-- The test holds of all states.
unfoldable pub each_state : (CopyState → Bool) → Bool
each_state p =
    p copy_states.I && p copy_states.IS_D && p copy_states.IM_AD && p copy_states.IM_A && p copy_states.S
    && p copy_states.SM_AD && p copy_states.SM_A && p copy_states.M && p copy_states.E && p copy_states.MI_A
    && p copy_states.SI_A && p copy_states.II_A

-- So it holds of any.
pub each_state-at : (p : CopyState → Bool) → each_state p ≡ true → (s : CopyState) → p s ≡ true
unfolding each_state
each_state-at p e copy_states.I = grind (arith, e)
each_state-at p e _ = grind (arith, e)
