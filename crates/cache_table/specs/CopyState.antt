-- What a copy's state means: who may read, who may write, who waits and who leaves.
use Rattle.std.specs.Prelude.{Bool, true, false}
use Rattle.cache_table.specs.declared.state.CopyState.{CopyState}
use Rattle.cache_table.specs.declared.state.CopyState.TheVariants as copy_states

-- A load may read the copy: S, M and E, and a shared copy that waits to be written.
abbrev pub is_readable : CopyState → Bool
is_readable copy_states.S = true
is_readable copy_states.SM_AD = true
is_readable copy_states.SM_A = true
is_readable copy_states.M = true
is_readable copy_states.E = true
is_readable _ = false

-- The copy may be written without asking: M and E.
abbrev pub is_writer : CopyState → Bool
is_writer copy_states.M = true
is_writer copy_states.E = true
is_writer _ = false

-- A miss is outstanding: the state waits for data (D) or acknowledgements (A), and has a miss register.
abbrev pub is_waiting : CopyState → Bool
is_waiting copy_states.IS_D = true
is_waiting copy_states.IM_AD = true
is_waiting copy_states.IM_A = true
is_waiting copy_states.SM_AD = true
is_waiting copy_states.SM_A = true
is_waiting _ = false

-- The copy was evicted: it is in the write-back buffer until its Put is acknowledged.
abbrev pub is_leaving : CopyState → Bool
is_leaving copy_states.MI_A = true
is_leaving copy_states.SI_A = true
is_leaving copy_states.II_A = true
is_leaving _ = false
