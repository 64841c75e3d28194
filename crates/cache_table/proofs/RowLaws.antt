-- The laws hold in each cell of the table.
use Rattle.std.proofs.Common.{◌≡◌, ℕ, ◌+◌, ◌==◌, true, false, nat_le, arith, rules, inl, inr}
use Rattle.std.proofs.lemmas.Bool.{cases_lt, le-leb, lt-ltb, le-ltb, lt-leb}
use Rattle.std.proofs.lemmas.Bool.Decides.{eqb_tells}
use Rattle.cache_table.specs.Law.{IsLawful}
use Rattle.cache_table.specs.Row.{row_by_count, row_of}
use Rattle.cache_table.specs.declared.state.CopyState.{CopyState}
use Rattle.cache_table.specs.declared.state.CopyState.TheVariants as copy_states
use Rattle.cache_table.specs.declared.row.CacheEvent.{CacheEvent}
use Rattle.cache_table.specs.declared.row.CacheEvent.TheVariants as cache_events
use Rattle.cache_table.specs.declared.row.CacheSends.TheVariants as cache_sends
use Rattle.cache_table.specs.declared.row.Row.TheVariants as rows

-- Where acknowledgements are counted, the laws hold if they do with the last, with others missing, and with no row.
counted-lawful : (state : CopyState) (event : CacheEvent) (waits : CopyState) (come n : ℕ)
    → ((come == n) ≡ true → nat_le come n ≡ true → IsLawful state event (rows.Go copy_states.M cache_sends.Nothing))
    → ((come == n) ≡ false → nat_le come n ≡ true → IsLawful state event (rows.Go waits cache_sends.Nothing))
    → (nat_le come n ≡ false → IsLawful state event rows.NoEntry) → IsLawful state event (row_by_count come n waits)
counted-lawful state event waits come n last others none =
    elim (eqb_tells come n) [
      | inl all ↦ rw all.0 (last all.0 (le-leb come n (omega (arith, all.1))))
      | inr some ↦
          elim (cases_lt come n) [
            | inl less ↦ rw (some.0, lt-ltb come n less) (others some.0 (le-leb come n (omega arith)))
            | inr more ↦ rw (some.0, le-ltb come n more) (none (lt-leb come n (omega (arith, some.1))))
          ]
    ]

-- The laws hold in each cell. The line of Load splits the cases of each state, and the last covers each that is
-- left.
pub row_of-lawful : (state : CopyState) (event : CacheEvent) → IsLawful state event (row_of state event)
row_of-lawful copy_states.IM_AD (cache_events.Data n k) =
    counted-lawful _ _ copy_states.IM_A k n (λ last within. search (rules, last, within))
    (λ some within. search (rules, some, within)) (λ past. search (rules, past))
row_of-lawful copy_states.SM_AD (cache_events.Data n k) =
    counted-lawful _ _ copy_states.SM_A k n (λ last within. search (rules, last, within))
    (λ some within. search (rules, some, within)) (λ past. search (rules, past))
row_of-lawful copy_states.IM_A (cache_events.InvAck n k) =
    counted-lawful _ _ copy_states.IM_A (k + 1) n (λ last within. search (rules, last, within))
    (λ some within. search (rules, some, within)) (λ past. search (rules, past))
row_of-lawful copy_states.SM_A (cache_events.InvAck n k) =
    counted-lawful _ _ copy_states.SM_A (k + 1) n (λ last within. search (rules, last, within))
    (λ some within. search (rules, some, within)) (λ past. search (rules, past))
row_of-lawful copy_states.IS_D (cache_events.DataE true) = search rules
row_of-lawful _ cache_events.Load = search rules
row_of-lawful _ _ = search rules
