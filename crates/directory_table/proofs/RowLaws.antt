-- The laws hold in each cell of the table.
use Rattle.std.proofs.Common.{◌≡◌, ℕ, ◌+◌, ◌==◌, ◌<◌, ◌≤◌, ◌&&◌, ◌||◌, Bool, true, false, not, if◌then◌else◌, Option}
use Rattle.std.proofs.Common.{Some, refl, ap, ◌∙◌, rules, arith, inl, inr, IsTrue}
use Rattle.std.proofs.lemmas.Bool.{cases_lt, cond_both, eq-eqb, ne_eqb}
use Rattle.std.proofs.lemmas.Bool.Decides.{eqb_tells}
use Rattle.address_map.specs.declared.address.CoreId.{CoreId}
use Rattle.address_map.specs.CoreSet.{has, only, with, without}
use Rattle.address_map.proofs.CoreSets.{has-zero, has-with, has-with_same, has-with_below, has-only_below, has-without}
use Rattle.address_map.proofs.CoreSets.{has-only, only-past, only-some, with-past, with-some}
use Rattle.directory_table.specs.Law.{IsLawful, IsSet, HasSets, messages_to}
use Rattle.directory_table.specs.Row.{cell, row_of}
use Rattle.directory_table.specs.declared.state.DirEntry.{DirEntry}
use Rattle.directory_table.specs.declared.state.DirState.{DirState}
use Rattle.directory_table.specs.declared.state.DirState.TheVariants as dir_states
use Rattle.directory_table.specs.declared.row.DirEvent.{DirEvent}
use Rattle.directory_table.specs.declared.row.DirEvent.TheVariants as dir_events
use Rattle.directory_table.specs.declared.row.DirSends.TheVariants as dir_sends

joined : (cores core : ℕ) → core < 64 → IsTrue (has (with cores core) core)
joined cores core within = rw (has-with_same cores core within) refl

has-pair : (one two core : ℕ) → core < 64 → has (with (only one) two) core ≡ (core == one || core == two)
has-pair one two core within =
    has-with_below (only one) two core within ∙ ap (λ first. first || core == two) (has-only_below one core within)

alone : (core : ℕ) → core < 64 → IsTrue (has (only core) core)
alone core within = rw (has-only core core within) (eq-eqb core core refl)

one_at_most : (one other : Bool) → (if one then 1 else 0) + 0 + (if other && not one then 1 else 0) ≤ 1
one_at_most true true = omega arith
one_at_most true false = omega arith
one_at_most false true = omega arith
one_at_most false false = omega arith

-- The requester is sent the data, and each other sharer an invalidation.
one_message : (requester : CoreId) (sharers acks core : ℕ)
    → messages_to (dir_events.GetM requester) (dir_sends.DataAndInv acks (without sharers requester.0)) core ≤ 1
one_message requester sharers acks core =
    rw (has-without sharers requester.0 core) (one_at_most (core == requester.0) (has sharers core))

-- The laws hold in each cell.
pub cell-lawful : (exclusive : Bool) (state : DirState) (owner : Option CoreId) (sharers : ℕ) (event : DirEvent)
    → IsLawful exclusive state owner sharers event (cell exclusive state owner sharers event)
cell-lawful true dir_states.I owner sharers (dir_events.GetS core) = search rules
cell-lawful false dir_states.I owner sharers (dir_events.GetS core) = search (rules, has-only_below, alone, only-some)
cell-lawful exclusive dir_states.S owner sharers (dir_events.GetS core) =
    search (rules, has-with_below, joined, with-some)
cell-lawful exclusive dir_states.S owner sharers (dir_events.GetM core) =
    search (rules, has-without, has-zero, one_message)
cell-lawful exclusive dir_states.S owner sharers (dir_events.PutS core) =
    elim (eqb_tells (without sharers core.0) 0) [
      | inl none ↦ rw none.0 (search (rules, has-without, none.1))
      | inr left ↦ rw left.0 (search (rules, has-without))
    ]
cell-lawful exclusive dir_states.S owner sharers (dir_events.PutM core) =
    elim (eqb_tells (without sharers core.0) 0) [
      | inl none ↦ rw none.0 (search (rules, has-without, none.1))
      | inr left ↦ rw left.0 (search (rules, has-without))
    ]
cell-lawful exclusive dir_states.M (Some from) sharers (dir_events.GetS core) =
    elim (eqb_tells from.0 core.0) [
      | inl own ↦ rw own.0 (search rules)
      | inr other ↦ rw other.0 (search (rules, other.0, has-pair, joined))
    ]
cell-lawful exclusive dir_states.M (Some from) sharers (dir_events.GetM core) =
    elim (eqb_tells from.0 core.0) [
      | inl own ↦ rw own.0 (search rules)
      | inr other ↦ rw other.0 (search (rules, other.0))
    ]
cell-lawful exclusive dir_states.M (Some from) sharers (dir_events.PutS core) =
    elim (eqb_tells from.0 core.0) [
      | inl own ↦ rw own.0 (search rules)
      | inr other ↦ rw other.0 (search (rules, other.0))
    ]
cell-lawful exclusive dir_states.M (Some from) sharers (dir_events.PutM core) =
    elim (eqb_tells from.0 core.0) [
      | inl own ↦ rw own.0 (search (rules, own.0))
      | inr other ↦ rw other.0 (search (rules, other.0))
    ]
cell-lawful exclusive dir_states.S_D owner sharers (dir_events.PutS core) = search (rules, has-without)
cell-lawful exclusive dir_states.S_D owner sharers (dir_events.PutM core) = search (rules, has-without)
cell-lawful exclusive dir_states.S_D owner sharers dir_events.DataHome =
    elim (eqb_tells sharers 0) [
      | inl none ↦ rw none.0 (search (rules, none.1))
      | inr left ↦ rw left.0 (search rules)
    ]
cell-lawful _ _ _ _ _ = search rules

pub lawful : (exclusive : Bool) (entry : DirEntry) (event : DirEvent)
    → IsLawful exclusive entry.state entry.owner entry.sharers event (row_of exclusive entry event)
lawful exclusive entry event = cell-lawful exclusive entry.state entry.owner entry.sharers event

-- ---- sets

set-only : (core : ℕ) → IsSet (only core)
set-only core other past =
    elim (cases_lt core 64) [
      | inl below ↦ has-only core other below ∙ ne_eqb other core (λ same. omega (arith, same, below, past))
      | inr beyond ↦ ap (λ set. has set other) (only-past core beyond) ∙ has-zero other
    ]

set-with : (set core : ℕ) → IsSet set → IsSet (with set core)
set-with set core small other past =
    elim (cases_lt core 64) [
      | inl below ↦
          has-with set core other below
          ∙ ap (λ b. b || other == core) (small other past)
          ∙ ne_eqb other core (λ same. omega (arith, same, below, past))
      | inr beyond ↦ ap (λ s. has s other) (with-past set core beyond) ∙ small other past
    ]

set-without : (set core : ℕ) → IsSet set → IsSet (without set core)
set-without set core small other past =
    has-without set core other ∙ ap (λ b. b && not (other == core)) (small other past)

set-none : IsSet 0
set-none other past = has-zero other

-- The sets of each cell have only cores that there can be. The last line covers each cell that is left.
pub cell-sets : (exclusive : Bool) (state : DirState) (owner : Option CoreId) (sharers : ℕ) (event : DirEvent)
    → IsSet sharers → HasSets (cell exclusive state owner sharers event)
cell-sets true dir_states.I owner sharers (dir_events.GetS core) small = (small, set-none)
cell-sets false dir_states.I owner sharers (dir_events.GetS core) small = (set-only core.0, set-none)
cell-sets exclusive dir_states.S owner sharers (dir_events.GetS core) small = (set-with sharers core.0 small, set-none)
cell-sets exclusive dir_states.S owner sharers (dir_events.GetM core) small =
    (set-none, set-without sharers core.0 small)
cell-sets exclusive dir_states.S owner sharers (dir_events.PutS core) small =
    (set-without sharers core.0 small, set-none)
cell-sets exclusive dir_states.S owner sharers (dir_events.PutM core) small =
    (set-without sharers core.0 small, set-none)
cell-sets exclusive dir_states.M (Some from) sharers (dir_events.GetS core) small =
    cond_both (from.0 == core.0) _ _ HasSets (λ own. tt)
    (λ other. (set-with (only from.0) core.0 (set-only from.0), set-none))
cell-sets exclusive dir_states.M (Some from) sharers (dir_events.GetM core) small =
    cond_both (from.0 == core.0) _ _ HasSets (λ own. tt) (λ other. (small, set-none))
cell-sets exclusive dir_states.M (Some from) sharers (dir_events.PutS core) small =
    cond_both (from.0 == core.0) _ _ HasSets (λ own. tt) (λ other. (small, set-none))
cell-sets exclusive dir_states.M (Some from) sharers (dir_events.PutM core) small =
    cond_both (from.0 == core.0) _ _ HasSets (λ own. (small, set-none)) (λ other. (small, set-none))
cell-sets exclusive dir_states.S_D owner sharers (dir_events.PutS core) small =
    (set-without sharers core.0 small, set-none)
cell-sets exclusive dir_states.S_D owner sharers (dir_events.PutM core) small =
    (set-without sharers core.0 small, set-none)
cell-sets _ _ _ _ _ small = search (rules, small, set-none)
