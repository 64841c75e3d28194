-- Rows that read numbers: only their order counts, so that each row is one of three samples.
use Rattle.std.proofs.Common.{◌≡◌, ℕ, ◌+◌, ◌==◌, Bool, true, false, refl, nat_lt}
use Rattle.cache_table.specs.Row.{row_of}
use Rattle.cache_table.specs.declared.row.CacheEvent.{CacheEvent}
use Rattle.cache_table.specs.declared.row.CacheEvent.TheVariants as cache_events
use Rattle.cache_table.specs.declared.state.CopyState.{CopyState}
use Rattle.cache_table.specs.declared.state.CopyState.TheVariants as copy_states

-- Data with which all acknowledgements are there, with which some are missing, and with which there are too many.
abbrev pub data_sample : Bool → Bool → CacheEvent
data_sample true few = cache_events.Data 0 0
data_sample false true = cache_events.Data 1 0
data_sample false false = cache_events.Data 0 1

-- An Inv-Ack that is the last, that isn't, and that is one too many.
abbrev pub ack_sample : Bool → Bool → CacheEvent
ack_sample true few = cache_events.InvAck 1 0
ack_sample false true = cache_events.InvAck 2 0
ack_sample false false = cache_events.InvAck 0 0

pub data_row : (state : CopyState) (n k : ℕ) (all few : Bool) → (k == n) ≡ all → nat_lt k n ≡ few
    → row_of state (cache_events.Data n k) ≡ row_of state (data_sample all few)
data_row copy_states.IM_AD n k true few e f = rw e
data_row copy_states.IM_AD n k false true e f = rw (e, f)
data_row copy_states.IM_AD n k false false e f = rw (e, f)
data_row copy_states.SM_AD n k true few e f = rw e
data_row copy_states.SM_AD n k false true e f = rw (e, f)
data_row copy_states.SM_AD n k false false e f = rw (e, f)
data_row _ n k true few e f = refl
data_row _ n k false true e f = refl
data_row _ n k false false e f = refl

pub ack_row : (state : CopyState) (n k : ℕ) (all few : Bool) → (k + 1 == n) ≡ all → nat_lt (k + 1) n ≡ few
    → row_of state (cache_events.InvAck n k) ≡ row_of state (ack_sample all few)
ack_row copy_states.IM_A n k true few e f = rw e
ack_row copy_states.IM_A n k false true e f = rw (e, f)
ack_row copy_states.IM_A n k false false e f = rw (e, f)
ack_row copy_states.SM_A n k true few e f = rw e
ack_row copy_states.SM_A n k false true e f = rw (e, f)
ack_row copy_states.SM_A n k false false e f = rw (e, f)
ack_row _ n k true few e f = refl
ack_row _ n k false true e f = refl
ack_row _ n k false false e f = refl
