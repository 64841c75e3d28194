-- The cells of a directory's table as values of JSON, one a line, at what the core that asks sees of the entry.
use Rattle.std.specs.Prelude.{ℕ, Bool, true, false, List, [], ◌++◌, codes}
use Rattle.std.specs.List.{flat_map}
use Rattle.directory_table.specs.Name.{name_of}
use Rattle.protocol_tables.specs.DirectoryRows.{all_cases, all_entries, rule_of}
use Rattle.protocol_tables.specs.declared.directory_rows.DirCase.{DirCase}
use Rattle.protocol_tables.specs.declared.directory_rows.DirCase.TheVariants as cases
use Rattle.protocol_tables.specs.declared.directory_rows.DirMessage.{DirMessage}
use Rattle.protocol_tables.specs.declared.directory_rows.DirMessage.TheVariants as messages
use Rattle.protocol_tables.specs.declared.directory_rows.DirRule.{DirRule}
use Rattle.protocol_tables.specs.declared.directory_rows.DirRule.TheVariants as rules
use Rattle.protocol_tables.specs.declared.directory_rows.Entry.{Entry}
use Rattle.protocol_tables.specs.declared.directory_rows.Entry.TheVariants as entries
use Rattle.protocol_tables.specs.declared.directory_rows.Owns.{Owns}
use Rattle.protocol_tables.specs.declared.directory_rows.Owns.TheVariants as owns
use Rattle.protocol_tables.specs.declared.directory_rows.Shares.{Shares}
use Rattle.protocol_tables.specs.declared.directory_rows.Shares.TheVariants as shares
use Rattle.protocol_tables.specs.declared.directory_rows.Sharing.{Sharing}
use Rattle.protocol_tables.specs.declared.directory_rows.Sharing.TheVariants as sharing

-- the entry's state
abbrev pub state_of : Entry → List ℕ
state_of entries.I = codes "I"
state_of (entries.S seen) = codes "S"
state_of entries.MOfAsker = codes "M"
state_of entries.MOfAnother = codes "M"
state_of (entries.S_D seen) = codes "S_D"

-- who shares the line
abbrev pub shared_by : Sharing → List ℕ
shared_by sharing.Nobody = codes "{\"owner\":\"nobody\",\"requester_shares\":false,\"others_share\":false}"
shared_by sharing.Asker = codes "{\"owner\":\"nobody\",\"requester_shares\":true,\"others_share\":false}"
shared_by sharing.Others = codes "{\"owner\":\"nobody\",\"requester_shares\":false,\"others_share\":true}"
shared_by sharing.Both = codes "{\"owner\":\"nobody\",\"requester_shares\":true,\"others_share\":true}"

-- who owns the line, and who shares it
abbrev pub guard_of : Entry → List ℕ
guard_of entries.I = shared_by sharing.Nobody
guard_of (entries.S seen) = shared_by seen
guard_of entries.MOfAsker = codes "{\"owner\":\"requester\",\"requester_shares\":false,\"others_share\":false}"
guard_of entries.MOfAnother = codes "{\"owner\":\"other\",\"requester_shares\":false,\"others_share\":false}"
guard_of (entries.S_D seen) = shared_by seen

-- the event's name
abbrev pub event_of : DirCase → List ℕ
event_of cases.GetS = codes "GetS"
event_of cases.GetM = codes "GetM"
event_of cases.PutS = codes "PutS"
event_of cases.PutM = codes "PutM"
event_of cases.DataHome = codes "Data home"

-- what is sent, and to whom
abbrev pub sends_of : DirMessage → List ℕ
sends_of messages.Nothing = codes ""
sends_of messages.Data =
    codes "{\"send\":\"Data\",\"to\":\"requester\",\"with\":\"block\",\"acknowledgements\":\"none\"}"
sends_of messages.DataE = codes "{\"send\":\"Data-E\",\"to\":\"requester\",\"with\":\"block\"}"
sends_of messages.DataAndInv =
    codes "{\"send\":\"Data\",\"to\":\"requester\",\"with\":\"block\",\"acknowledgements\":\"other sharers\"},{\"send\":\"Inv\",\"to\":\"other sharers\",\"names\":\"requester\"}"
sends_of messages.FwdGetS = codes "{\"send\":\"Fwd-GetS\",\"to\":\"owner\",\"names\":\"requester\"}"
sends_of messages.FwdGetM = codes "{\"send\":\"Fwd-GetM\",\"to\":\"owner\",\"names\":\"requester\"}"
sends_of messages.PutAck = codes "{\"send\":\"Put-Ack\",\"to\":\"requester\"}"

-- whether the message's block becomes the home copy
abbrev pub home_of : Bool → List ℕ
home_of true = codes "{\"do\":\"block home\"}"
home_of false = codes ""

-- what a row does
abbrev pub effects_of : DirMessage → Bool → List ℕ
effects_of messages.Nothing writes_home = sends_of messages.Nothing ++ home_of writes_home
effects_of sent true = sends_of sent ++ (codes "," ++ home_of true)
effects_of sent false = sends_of sent ++ home_of false

-- who owns the line afterwards, and who shares it
abbrev pub owner_after : Owns → List ℕ
owner_after owns.Nobody = codes "nobody"
owner_after owns.Same = codes "same"
owner_after owns.Asker = codes "requester"

abbrev pub sharers_after : Shares → List ℕ
sharers_after shares.Nobody = codes "nobody"
sharers_after shares.Same = codes "same"
sharers_after shares.Asker = codes "requester"
sharers_after shares.AskerToo = codes "same and requester"
sharers_after shares.AskerNot = codes "same but requester"
sharers_after shares.OwnerAndAsker = codes "owner and requester"

-- what a cell says of its row
abbrev pub said_of : DirRule → List ℕ
said_of (rules.Go does) =
    codes "\"row\":\"go\",\"effects\":[" ++ (effects_of does.sends does.writes_home
    ++ (codes "],\"next\":{\"state\":\"" ++ (name_of does.state
    ++ (codes "\",\"owner\":\"" ++ (owner_after does.owns
    ++ (codes "\",\"sharers\":\"" ++ (sharers_after does.shares ++ codes "\"}}\n")))))))
said_of rules.Blocked = codes "\"row\":\"blocked\"}\n"
said_of rules.NoEntry = codes "\"row\":\"never\"}\n"

-- what it begins with
abbrev pub begin_of : Entry → DirCase → List ℕ
begin_of entry case =
    codes "{\"table\":\"directory\",\"state\":\"" ++ (state_of entry ++ (codes "\",\"event\":\"" ++ (event_of case
    ++ (codes "\",\"guard\":" ++ (guard_of entry ++ codes ",")))))

-- the value of a cell
abbrev pub line_of : Entry → DirCase → DirRule → List ℕ
line_of entry case row = begin_of entry case ++ said_of row

-- the values of an entry at these events
abbrev pub lines_of : Bool → Entry → List DirCase → List ℕ
lines_of exclusive entry these = flat_map (λ case. line_of entry case (rule_of exclusive entry case)) these

-- of these entries
abbrev pub entry_lines : Bool → List Entry → List ℕ
entry_lines exclusive these = flat_map (λ entry. lines_of exclusive entry all_cases) these

-- of what an entry can look like
abbrev pub cells_of : Bool → List ℕ
cells_of exclusive = entry_lines exclusive all_entries
