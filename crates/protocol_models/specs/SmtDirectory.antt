-- The queries of a directory. Each is the text of one row, at what the core that asks sees of the entry.
use Rattle.std.specs.Prelude.{ℕ, Bool, true, false, List, ◌++◌, codes}
use Rattle.std.specs.List.{flat_map}
use Rattle.directory_table.specs.Name.{name_of}
use Rattle.protocol_tables.specs.Directory.{text_of_home}
use Rattle.protocol_tables.specs.DirectoryRows.{all_cases, all_entries, rule_of}
use Rattle.protocol_tables.specs.declared.directory_rows.DirCase.{DirCase}
use Rattle.protocol_tables.specs.declared.directory_rows.DirCase.TheVariants as cases
use Rattle.protocol_tables.specs.declared.directory_rows.DirEffect.{DirEffect}
use Rattle.protocol_tables.specs.declared.directory_rows.DirMessage.{DirMessage}
use Rattle.protocol_tables.specs.declared.directory_rows.DirMessage.TheVariants as messages
use Rattle.protocol_tables.specs.declared.directory_rows.DirRule.{DirRule}
use Rattle.protocol_tables.specs.declared.directory_rows.DirRule.TheVariants as rules
use Rattle.protocol_tables.specs.declared.directory_rows.Entry.{Entry}
use Rattle.protocol_tables.specs.declared.directory_rows.Entry.TheVariants as entries
use Rattle.protocol_tables.specs.declared.directory_rows.Owns.{Owns}
use Rattle.protocol_tables.specs.declared.directory_rows.Owns.TheVariants as owns
use Rattle.protocol_tables.specs.declared.directory_rows.Shares.{Shares}
use Rattle.protocol_tables.specs.declared.directory_rows.Shares.TheVariants as shares
use Rattle.protocol_tables.specs.declared.directory_rows.Sharing.TheVariants as sharing

-- ---- words

-- an entry, as in the tables: r asks, o is the owner, x are further sharers
abbrev pub entry_title : Entry → List ℕ
entry_title entries.I = codes "I"
entry_title (entries.S sharing.Nobody) = codes "S"
entry_title (entries.S sharing.Asker) = codes "S, sharers r"
entry_title (entries.S sharing.Others) = codes "S, sharers x"
entry_title (entries.S sharing.Both) = codes "S, sharers r, x"
entry_title entries.MOfAsker = codes "M, owner r"
entry_title entries.MOfAnother = codes "M, owner o"
entry_title (entries.S_D sharing.Nobody) = codes "S_D"
entry_title (entries.S_D sharing.Asker) = codes "S_D, sharers r"
entry_title (entries.S_D sharing.Others) = codes "S_D, sharers x"
entry_title (entries.S_D sharing.Both) = codes "S_D, sharers r, x"

-- .. and in the queries: its state, who owns the line, whether the requester shares it, and whether others do
abbrev pub entry_term : Entry → List ℕ
entry_term entries.I = codes "D_I nobody false false"
entry_term (entries.S sharing.Nobody) = codes "D_S nobody false false"
entry_term (entries.S sharing.Asker) = codes "D_S nobody true false"
entry_term (entries.S sharing.Others) = codes "D_S nobody false true"
entry_term (entries.S sharing.Both) = codes "D_S nobody true true"
entry_term entries.MOfAsker = codes "D_M asker false false"
entry_term entries.MOfAnother = codes "D_M another false false"
entry_term (entries.S_D sharing.Nobody) = codes "D_S_D nobody false false"
entry_term (entries.S_D sharing.Asker) = codes "D_S_D nobody true false"
entry_term (entries.S_D sharing.Others) = codes "D_S_D nobody false true"
entry_term (entries.S_D sharing.Both) = codes "D_S_D nobody true true"

-- an event
abbrev pub title_of : DirCase → List ℕ
title_of cases.GetS = codes "GetS of r"
title_of cases.GetM = codes "GetM of r"
title_of cases.PutS = codes "PutS of r"
title_of cases.PutM = codes "PutM of r"
title_of cases.DataHome = codes "Data home"

abbrev pub event_name : DirCase → List ℕ
event_name cases.GetS = codes "take-GetS"
event_name cases.GetM = codes "take-GetM"
event_name cases.PutS = codes "take-PutS"
event_name cases.PutM = codes "take-PutM"
event_name cases.DataHome = codes "take-home"

-- what a row sends
abbrev pub sends_title : DirMessage → List ℕ
sends_title messages.Nothing = codes ""
sends_title messages.Data = codes "Data(0); "
sends_title messages.DataE = codes "Data-E; "
sends_title messages.DataAndInv = codes "Data(as many as x), Inv to x; "
sends_title messages.FwdGetS = codes "Fwd-GetS to o; "
sends_title messages.FwdGetM = codes "Fwd-GetM to o; "
sends_title messages.PutAck = codes "Put-Ack; "

abbrev pub sends_name : DirMessage → List ℕ
sends_name messages.Nothing = codes "nothing"
sends_name messages.Data = codes "reply-Data"
sends_name messages.DataE = codes "reply-Data-E"
sends_name messages.DataAndInv = codes "reply-Data-and-Inv"
sends_name messages.FwdGetS = codes "forward-GetS"
sends_name messages.FwdGetM = codes "forward-GetM"
sends_name messages.PutAck = codes "reply-Put-Ack"

-- who owns the line afterwards, and who shares it
abbrev pub owns_name : Owns → List ℕ
owns_name owns.Nobody = codes "nobody-owns"
owns_name owns.Same = codes "owner-stays"
owns_name owns.Asker = codes "p-owns"

abbrev pub shares_name : Shares → List ℕ
shares_name shares.Nobody = codes "nobody-shares"
shares_name shares.Same = codes "sharers-stay"
shares_name shares.Asker = codes "p-shares"
shares_name shares.AskerToo = codes "p-joins"
shares_name shares.AskerNot = codes "p-leaves"
shares_name shares.OwnerAndAsker = codes "p-and-q-share"

-- whether the message's block becomes the home copy
abbrev pub truth_name : Bool → List ℕ
truth_name true = codes "true"
truth_name false = codes "false"

-- ---- queries

-- a cell's name
abbrev pub cell_name : Entry → DirCase → List ℕ
cell_name entry case = codes "directory " ++ (entry_title entry ++ (codes "; " ++ title_of case))

-- what a row does: as in the tables, up to the next state, and in the queries
abbrev pub outcome_of : DirEffect → List ℕ
outcome_of does = sends_title does.sends ++ (text_of_home does.writes_home ++ name_of does.state)

abbrev pub step_of : DirEffect → List ℕ
step_of does =
    sends_name does.sends ++ (codes " " ++ (truth_name does.writes_home ++ (codes " D_" ++ (name_of does.state
    ++ (codes " " ++ (owns_name does.owns ++ (codes " " ++ shares_name does.shares)))))))

-- the query of an entry and an event, by their row: whether the invariant holds before it and not after it, or, of a
-- cell without a row, whether the event can come
abbrev pub query_of : Entry → DirCase → DirRule → List ℕ
query_of entry case (rules.Go does) =
    codes "; " ++ (cell_name entry case ++ (codes ": " ++ (outcome_of does
    ++ (codes "\n(push 1)\n(assert (invariant before))\n(assert (entry "
    ++ (entry_term entry ++ (codes "))\n(assert (directory-row "
    ++ (event_name case ++ (codes " " ++ (step_of does
    ++ codes "))\n(assert (not kept))\n(check-sat)\n(pop 1)\n\n")))))))))
query_of entry case rules.Blocked = codes "; " ++ (cell_name entry case ++ codes ": blocked\n\n")
query_of entry case rules.NoEntry =
    codes "; " ++ (cell_name entry case ++ (codes ": -\n(push 1)\n(assert (invariant before))\n(assert (entry "
    ++ (entry_term entry ++ (codes "))\n(assert (directory-event "
    ++ (event_name case ++ codes "))\n(check-sat)\n(pop 1)\n\n")))))

-- the queries of an entry at these events
abbrev pub cells_of : Bool → Entry → List DirCase → List ℕ
cells_of exclusive entry these = flat_map (λ case. query_of entry case (rule_of exclusive entry case)) these

-- the queries of these entries
abbrev pub entries_queries : Bool → List Entry → List ℕ
entries_queries exclusive these = flat_map (λ entry. cells_of exclusive entry all_cases) these

-- the queries of what an entry can look like
abbrev pub queries_of : Bool → List ℕ
queries_of exclusive = entries_queries exclusive all_entries

-- that the entry looks like one of these
abbrev pub entry_terms_of : Entry → List ℕ
entry_terms_of entry = codes "\n  (entry-of " ++ entry_term entry ++ codes " o)"

abbrev pub entries_terms : List Entry → List ℕ
entries_terms these = flat_map entry_terms_of these

abbrev pub entry_terms : List ℕ
entry_terms =
    codes "; The entry is one of those whose rows follow, with o as the owner.\n(define-fun some-entry ((o Core)) Bool (or"
    ++ entries_terms all_entries ++ codes "))\n\n"
