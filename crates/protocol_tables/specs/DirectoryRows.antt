-- What the core that asks sees of a directory's entry, and the rows at what it sees.
use Rattle.std.specs.Prelude.{◌≡◌, ◌==◌, ℕ, Bool, true, false, List, [], ◌∷◌, Option, Some, None}
use Rattle.address_map.specs.CoreSet.{count_of, has, only, with, without}
use Rattle.address_map.specs.declared.address.CoreId.{CoreId}
use Rattle.directory_table.specs.declared.state.DirState.{DirState}
use Rattle.directory_table.specs.declared.state.DirState.TheVariants as dir_states
use Rattle.directory_table.specs.declared.row.DirEvent.{DirEvent}
use Rattle.directory_table.specs.declared.row.DirEvent.TheVariants as dir_events
use Rattle.directory_table.specs.declared.row.DirRow.{DirRow}
use Rattle.directory_table.specs.declared.row.DirRow.TheVariants as dir_rows
use Rattle.directory_table.specs.declared.row.DirSends.{DirSends}
use Rattle.directory_table.specs.declared.row.DirSends.TheVariants as dir_sends
use Rattle.protocol_tables.specs.declared.directory_rows.DirCase.{DirCase}
use Rattle.protocol_tables.specs.declared.directory_rows.DirCase.TheVariants as cases
use Rattle.protocol_tables.specs.declared.directory_rows.DirMessage.{DirMessage}
use Rattle.protocol_tables.specs.declared.directory_rows.DirMessage.TheVariants as messages
use Rattle.protocol_tables.specs.declared.directory_rows.DirRule.{DirRule}
use Rattle.protocol_tables.specs.declared.directory_rows.DirRule.TheVariants as rules
use Rattle.protocol_tables.specs.declared.directory_rows.Entry.{Entry}
use Rattle.protocol_tables.specs.declared.directory_rows.Entry.TheVariants as entries
use Rattle.protocol_tables.specs.declared.directory_rows.Owns.{Owns}
use Rattle.protocol_tables.specs.declared.directory_rows.Owns.TheVariants as owns
use Rattle.protocol_tables.specs.declared.directory_rows.Shares.{Shares}
use Rattle.protocol_tables.specs.declared.directory_rows.Shares.TheVariants as shares
use Rattle.protocol_tables.specs.declared.directory_rows.Sharing.{Sharing}
use Rattle.protocol_tables.specs.declared.directory_rows.Sharing.TheVariants as sharing

-- ---- what is seen

-- whether the core that asks shares the line, and whether no other does
pub record Share (sharers : ℕ) (asker : CoreId) (asks alone : Bool) : Type 0 where
  pub asks_too : has sharers asker.0 ≡ asks
  pub no_other : (without sharers asker.0 == 0) ≡ alone

abbrev pub IsSharing : Sharing → ℕ → CoreId → Type 0
IsSharing sharing.Nobody sharers asker = sharers ≡ 0
IsSharing sharing.Asker sharers asker = Share sharers asker true true
IsSharing sharing.Others sharers asker = Share sharers asker false false
IsSharing sharing.Both sharers asker = Share sharers asker true false

-- An entry looks so to the core that asks. Only in M there is an owner.
abbrev pub IsEntry : Entry → DirState → Option CoreId → ℕ → CoreId → Type 0
IsEntry entries.I dir_states.I None sharers asker = Unit {0}
IsEntry (entries.S seen) dir_states.S None sharers asker = IsSharing seen sharers asker
IsEntry entries.MOfAsker dir_states.M (Some owner) sharers asker = (owner.0 == asker.0) ≡ true
IsEntry entries.MOfAnother dir_states.M (Some owner) sharers asker = (owner.0 == asker.0) ≡ false
IsEntry (entries.S_D seen) dir_states.S_D None sharers asker = IsSharing seen sharers asker
IsEntry _ _ _ _ _ = ⊥

-- the event, of the core that asks
abbrev pub event_of : DirCase → CoreId → DirEvent
event_of cases.GetS asker = dir_events.GetS asker
event_of cases.GetM asker = dir_events.GetM asker
event_of cases.PutS asker = dir_events.PutS asker
event_of cases.PutM asker = dir_events.PutM asker
event_of cases.DataHome asker = dir_events.DataHome

-- ---- rows

-- the row that leaves the home copy as it is, and the row that writes it
abbrev pub goes : DirMessage → DirState → Owns → Shares → DirRule
goes sent state owner sharers =
    rules.Go (record { sends = sent; writes_home = false; state = state; owns = owner; shares = sharers })

abbrev pub goes_home : DirMessage → DirState → Owns → Shares → DirRule
goes_home sent state owner sharers =
    rules.Go (record { sends = sent; writes_home = true; state = state; owns = owner; shares = sharers })

-- S, or I where no sharer is left
abbrev pub without_asker : Sharing → DirState
without_asker sharing.Nobody = dir_states.I
without_asker sharing.Asker = dir_states.I
without_asker _ = dir_states.S

abbrev pub with_all : Sharing → DirState
with_all sharing.Nobody = dir_states.I
with_all _ = dir_states.S

-- the row at a setting of the exclusive state, at what is seen of the entry, and at an event
abbrev pub rule_of : Bool → Entry → DirCase → DirRule
rule_of true entries.I cases.GetS = goes messages.DataE dir_states.M owns.Asker shares.Same
rule_of false entries.I cases.GetS = goes messages.Data dir_states.S owns.Same shares.Asker
rule_of exclusive entries.I cases.GetM = goes messages.Data dir_states.M owns.Asker shares.Same
rule_of exclusive entries.I cases.PutS = goes messages.PutAck dir_states.I owns.Same shares.Same
rule_of exclusive entries.I cases.PutM = goes messages.PutAck dir_states.I owns.Same shares.Same
rule_of exclusive (entries.S seen) cases.GetS = goes messages.Data dir_states.S owns.Same shares.AskerToo
rule_of exclusive (entries.S seen) cases.GetM = goes messages.DataAndInv dir_states.M owns.Asker shares.Nobody
rule_of exclusive (entries.S seen) cases.PutS = goes messages.PutAck (without_asker seen) owns.Same shares.AskerNot
rule_of exclusive (entries.S seen) cases.PutM = goes messages.PutAck (without_asker seen) owns.Same shares.AskerNot
rule_of exclusive entries.MOfAnother cases.GetS =
    goes messages.FwdGetS dir_states.S_D owns.Nobody shares.OwnerAndAsker
rule_of exclusive entries.MOfAnother cases.GetM = goes messages.FwdGetM dir_states.M owns.Asker shares.Same
rule_of exclusive entries.MOfAnother cases.PutS = goes messages.PutAck dir_states.M owns.Same shares.Same
rule_of exclusive entries.MOfAnother cases.PutM = goes messages.PutAck dir_states.M owns.Same shares.Same
rule_of exclusive entries.MOfAsker cases.PutM = goes_home messages.PutAck dir_states.I owns.Nobody shares.Same
rule_of exclusive (entries.S_D seen) cases.GetS = rules.Blocked
rule_of exclusive (entries.S_D seen) cases.GetM = rules.Blocked
rule_of exclusive (entries.S_D seen) cases.PutS = goes messages.PutAck dir_states.S_D owns.Same shares.AskerNot
rule_of exclusive (entries.S_D seen) cases.PutM = goes messages.PutAck dir_states.S_D owns.Same shares.AskerNot
rule_of exclusive (entries.S_D seen) cases.DataHome = goes_home messages.Nothing (with_all seen) owns.Same shares.Same
rule_of _ _ _ = rules.NoEntry

-- ---- what a row means at an entry, with its owner and its sharers

abbrev pub owner_after : Owns → Option CoreId → CoreId → Option CoreId
owner_after owns.Nobody owner asker = None
owner_after owns.Same owner asker = owner
owner_after owns.Asker owner asker = Some asker

-- the owner and who asks
abbrev pub pair_of : Option CoreId → CoreId → ℕ
pair_of (Some owner) asker = with (only owner.0) asker.0
pair_of None asker = only asker.0

abbrev pub sharers_after : Shares → Option CoreId → ℕ → CoreId → ℕ
sharers_after shares.Nobody owner sharers asker = 0
sharers_after shares.Same owner sharers asker = sharers
sharers_after shares.Asker owner sharers asker = only asker.0
sharers_after shares.AskerToo owner sharers asker = with sharers asker.0
sharers_after shares.AskerNot owner sharers asker = without sharers asker.0
sharers_after shares.OwnerAndAsker owner sharers asker = pair_of owner asker

-- a request to the owner
abbrev pub to_owner : (CoreId → DirSends) → Option CoreId → DirSends
to_owner request (Some owner) = request owner
to_owner request None = dir_sends.Nothing

abbrev pub sends_of : DirMessage → Option CoreId → ℕ → CoreId → DirSends
sends_of messages.Nothing owner sharers asker = dir_sends.Nothing
sends_of messages.Data owner sharers asker = dir_sends.Data 0
sends_of messages.DataE owner sharers asker = dir_sends.DataE
sends_of messages.DataAndInv owner sharers asker =
    dir_sends.DataAndInv (count_of (without sharers asker.0)) (without sharers asker.0)
sends_of messages.FwdGetS owner sharers asker = to_owner (λ core. dir_sends.FwdGetS core) owner
sends_of messages.FwdGetM owner sharers asker = to_owner (λ core. dir_sends.FwdGetM core) owner
sends_of messages.PutAck owner sharers asker = dir_sends.PutAck

abbrev pub meaning_of : DirRule → Option CoreId → ℕ → CoreId → DirRow
meaning_of (rules.Go does) owner sharers asker = dir_rows.Go (record {
  state = does.state;
  owner = owner_after does.owns owner asker;
  sharers = sharers_after does.shares owner sharers asker;
  sends = sends_of does.sends owner sharers asker;
  writes_home = does.writes_home;
})
meaning_of rules.Blocked owner sharers asker = dir_rows.Blocked
meaning_of rules.NoEntry owner sharers asker = dir_rows.NoEntry

-- ---- lists

-- what an entry can look like: in S a line has a sharer
abbrev pub all_entries : List Entry
all_entries =
    entries.I ∷ entries.S sharing.Others ∷ entries.S sharing.Both ∷ entries.S sharing.Asker ∷ entries.MOfAnother
    ∷ entries.MOfAsker ∷ entries.S_D sharing.Others ∷ entries.S_D sharing.Both ∷ entries.S_D sharing.Asker
    ∷ entries.S_D sharing.Nobody ∷ []

-- what comes to a directory
abbrev pub all_cases : List DirCase
all_cases = cases.GetS ∷ cases.GetM ∷ cases.PutS ∷ cases.PutM ∷ cases.DataHome ∷ []
