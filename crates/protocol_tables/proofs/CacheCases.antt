-- Of an event's numbers only how they compare makes a difference.
use Rattle.std.proofs.Common.{◌≡◌, ℕ, ◌+◌, refl, arith, ap}
use Rattle.std.proofs.lemmas.Bool.{eq-eqb, le-ltb, lt-ltb, ne_eqb}
use Rattle.cache_table.specs.Row.{row_by_count, row_of}
use Rattle.cache_table.specs.declared.state.CopyState.{CopyState}
use Rattle.cache_table.specs.declared.state.CopyState.TheVariants as copy_states
use Rattle.cache_table.specs.declared.row.CacheEvent.{CacheEvent}
use Rattle.cache_table.specs.declared.row.CacheEvent.TheVariants as cache_events
use Rattle.cache_table.specs.declared.row.CacheSends.TheVariants as cache_sends
use Rattle.cache_table.specs.declared.row.Row.{Row}
use Rattle.cache_table.specs.declared.row.Row.TheVariants as rows
use Rattle.protocol_tables.specs.CacheRows.{Compares, IsCase, rule_of}
use Rattle.protocol_tables.specs.declared.cache_rows.CacheCase.{CacheCase}
use Rattle.protocol_tables.specs.declared.cache_rows.CacheCase.TheVariants as cases
use Rattle.protocol_tables.specs.declared.cache_rows.Counted.{Counted}
use Rattle.protocol_tables.specs.declared.cache_rows.Counted.TheVariants as counted

-- what a row by count is, by how the numbers compare
abbrev row_at : Counted → CopyState → Row
row_at counted.Equal waits = rows.Go copy_states.M cache_sends.Nothing
row_at counted.Less waits = rows.Go waits cache_sends.Nothing
row_at counted.More waits = rows.NoEntry

by_count : (how : Counted) (k n : ℕ) (waits : CopyState) → Compares how k n → row_by_count k n waits ≡ row_at how waits
by_count counted.Equal k n waits same = rw (eq-eqb k n same) refl
by_count counted.Less k n waits less =
    rw (ne_eqb k n (λ same. omega (arith, same, less)), lt-ltb k n less) refl
by_count counted.More k n waits more =
    rw (ne_eqb k n (λ same. omega (arith, same, more)), le-ltb k n (omega (arith, more))) refl

-- data, and acknowledgements, in each state
of_data : (state : CopyState) (how : Counted) (n k : ℕ) → Compares how k n
    → row_of state (cache_events.Data n k) ≡ rule_of state (cases.Data how)
of_data copy_states.IM_AD counted.Equal n k is = by_count counted.Equal k n copy_states.IM_A is
of_data copy_states.IM_AD counted.Less n k is = by_count counted.Less k n copy_states.IM_A is
of_data copy_states.IM_AD counted.More n k is = by_count counted.More k n copy_states.IM_A is
of_data copy_states.SM_AD counted.Equal n k is = by_count counted.Equal k n copy_states.SM_A is
of_data copy_states.SM_AD counted.Less n k is = by_count counted.Less k n copy_states.SM_A is
of_data copy_states.SM_AD counted.More n k is = by_count counted.More k n copy_states.SM_A is
of_data _ counted.Equal n k is = refl
of_data _ counted.Less n k is = refl
of_data _ counted.More n k is = refl

of_inv_ack : (state : CopyState) (how : Counted) (n k : ℕ) → Compares how (k + 1) n
    → row_of state (cache_events.InvAck n k) ≡ rule_of state (cases.InvAck how)
of_inv_ack copy_states.IM_A counted.Equal n k is = by_count counted.Equal (k + 1) n copy_states.IM_A is
of_inv_ack copy_states.IM_A counted.Less n k is = by_count counted.Less (k + 1) n copy_states.IM_A is
of_inv_ack copy_states.IM_A counted.More n k is = by_count counted.More (k + 1) n copy_states.IM_A is
of_inv_ack copy_states.SM_A counted.Equal n k is = by_count counted.Equal (k + 1) n copy_states.SM_A is
of_inv_ack copy_states.SM_A counted.Less n k is = by_count counted.Less (k + 1) n copy_states.SM_A is
of_inv_ack copy_states.SM_A counted.More n k is = by_count counted.More (k + 1) n copy_states.SM_A is
of_inv_ack _ counted.Equal n k is = refl
of_inv_ack _ counted.Less n k is = refl
of_inv_ack _ counted.More n k is = refl

-- the row is that of the case
pub of_case : (state : CopyState) (case : CacheCase) (event : CacheEvent) → IsCase case event
    → row_of state event ≡ rule_of state case
of_case state (cases.Data how) (cache_events.Data n k) is = of_data state how n k is
of_case state (cases.InvAck how) (cache_events.InvAck n k) is = of_inv_ack state how n k is
of_case state _ _ is = ap (row_of state) is
