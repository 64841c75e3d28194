-- What a printed table of a directory says, at sample entries: core r asks, o owns the line, x is another core.
use Rattle.std.specs.Prelude.{◌≡◌, ◌≢◌, ◌⊎◌, ◌==◌, ◌||◌, not, Bool, true, false, ℕ, List, [], ◌∷◌, ◌++◌, codes}
use Rattle.std.specs.Prelude.{if◌then◌else◌, Option, Some, None}
use Rattle.std.specs.List.{Any}
use Rattle.address_map.specs.CoreSet.{only, with}
use Rattle.address_map.specs.declared.address.CoreId.{CoreId}
use Rattle.directory_table.specs.declared.state.DirState.TheVariants as dir_states
use Rattle.directory_table.specs.declared.row.DirRow.{DirRow}
use Rattle.directory_table.specs.declared.row.DirRow.TheVariants as dir_rows
use Rattle.protocol_tables.specs.Directory.{idle, o, owned_entry, r, shared_entry, text_of_entry, text_of_row, x}
use Rattle.protocol_tables.specs.DirectoryRows.{meaning_of, rule_of}
use Rattle.protocol_tables.specs.declared.directory.Holders.{Holders}
use Rattle.protocol_tables.specs.declared.directory_rows.DirCase.{DirCase}
use Rattle.protocol_tables.specs.declared.directory_rows.DirCase.TheVariants as cases
use Rattle.protocol_tables.specs.declared.directory_rows.DirMessage.{DirMessage}
use Rattle.protocol_tables.specs.declared.directory_rows.DirMessage.TheVariants as messages
use Rattle.protocol_tables.specs.declared.directory_rows.DirRule.{DirRule}
use Rattle.protocol_tables.specs.declared.directory_rows.DirRule.TheVariants as rules
use Rattle.protocol_tables.specs.declared.directory_rows.Entry.{Entry}
use Rattle.protocol_tables.specs.declared.directory_rows.Entry.TheVariants as entries
use Rattle.protocol_tables.specs.declared.directory_rows.Owns.{Owns}
use Rattle.protocol_tables.specs.declared.directory_rows.Owns.TheVariants as owns
use Rattle.protocol_tables.specs.declared.directory_rows.Shares.{Shares}
use Rattle.protocol_tables.specs.declared.directory_rows.Shares.TheVariants as shares
use Rattle.protocol_tables.specs.declared.directory_rows.Sharing.TheVariants as sharing
use Rattle.changed_tables.specs.Directory.{is_at}
use Rattle.changed_tables.specs.Layout.{Cell}
use Rattle.changed_tables.specs.declared.fault.TableFault.{TableFault}
use Rattle.changed_tables.specs.declared.fault.TableFault.TheVariants as faults
use Rattle.changed_tables.specs.declared.tables.DirectoryChange.{DirectoryChange}

-- ---- lines and columns

-- the sample of each entry
abbrev pub sample_of : Entry → Holders
sample_of entries.I = idle
sample_of (entries.S sharing.Nobody) = shared_entry dir_states.S 0
sample_of (entries.S sharing.Asker) = shared_entry dir_states.S (only r.0)
sample_of (entries.S sharing.Others) = shared_entry dir_states.S (only x.0)
sample_of (entries.S sharing.Both) = shared_entry dir_states.S (with (only x.0) r.0)
sample_of entries.MOfAsker = owned_entry r
sample_of entries.MOfAnother = owned_entry o
sample_of (entries.S_D sharing.Nobody) = shared_entry dir_states.S_D 0
sample_of (entries.S_D sharing.Asker) = shared_entry dir_states.S_D (only r.0)
sample_of (entries.S_D sharing.Others) = shared_entry dir_states.S_D (with (only o.0) x.0)
sample_of (entries.S_D sharing.Both) = shared_entry dir_states.S_D (with (only o.0) r.0)

abbrev pub holders_text : Holders → List ℕ
holders_text holders = text_of_entry holders.state holders.owner holders.sharers

-- the title of a column
abbrev pub title_of : DirCase → List ℕ
title_of cases.GetS = codes "GetS of r"
title_of cases.GetM = codes "GetM of r"
title_of cases.PutS = codes "PutS of r"
title_of cases.PutM = codes "PutM of r"
title_of cases.DataHome = codes "Data home"

-- ---- cells

-- what a rule does at the sample of an entry
abbrev pub row_at_sample : Entry → DirRule → DirRow
row_at_sample entry rule = meaning_of rule (sample_of entry).owner (sample_of entry).sharers r

abbrev pub rule_text : Entry → DirRule → List ℕ
rule_text entry rule = text_of_row (row_at_sample entry rule)

-- what our table says at a cell
abbrev pub our_text : Bool → Entry → DirCase → List ℕ
our_text exclusive entry case = rule_text entry (rule_of exclusive entry case)

-- what the changed table says at a cell
abbrev pub text_in : Bool → List DirectoryChange → Entry → DirCase → List ℕ
text_in exclusive [] entry case = our_text exclusive entry case
text_in exclusive (change ∷ more) entry case =
    if is_at change entry case then rule_text entry change.rule else text_in exclusive more entry case

-- ---- rules that can occur at a cell

-- what is printed is the whole entry: with an owner there is no sharer
abbrev pub is_whole_entry : Option CoreId → ℕ → Bool
is_whole_entry None sharers = true
is_whole_entry (Some owner) sharers = sharers == 0

abbrev pub is_whole : DirRow → Bool
is_whole (dir_rows.Go step) = is_whole_entry step.owner step.sharers
is_whole _ = true

-- the requester is sent something, owns or shares the line afterwards, or shares it no longer
abbrev pub sends_to_asker : DirMessage → Bool
sends_to_asker messages.Nothing = false
sends_to_asker _ = true

abbrev pub owned_by_asker : Owns → Bool
owned_by_asker owns.Asker = true
owned_by_asker _ = false

abbrev pub shared_by_asker : Shares → Bool
shared_by_asker shares.Nobody = false
shared_by_asker shares.Same = false
shared_by_asker _ = true

abbrev pub names_asker : DirRule → Bool
names_asker (rules.Go does) = sends_to_asker does.sends || owned_by_asker does.owns || shared_by_asker does.shares
names_asker _ = false

-- the entry as a core sees it that neither shares nor owns the line
abbrev pub is_of_others : Entry → Bool
is_of_others entries.I = true
is_of_others (entries.S sharing.Others) = true
is_of_others entries.MOfAnother = true
is_of_others (entries.S_D sharing.Nobody) = true
is_of_others (entries.S_D sharing.Others) = true
is_of_others _ = false

-- At data that come home no core asks: a row is looked up as a core sees it that has nothing to do with the line.
abbrev pub is_asked_at : Entry → DirCase → Bool
is_asked_at entry cases.DataHome = is_of_others entry
is_asked_at entry _ = true

abbrev pub is_rule_for : DirCase → DirRule → Bool
is_rule_for cases.DataHome rule = not (names_asker rule)
is_rule_for _ rule = true

-- a rule that says this word
pub record IsSaid (entry : Entry) (case : DirCase) (word : List ℕ) (rule : DirRule) : Type 0 where
  pub prints : rule_text entry rule ≡ word
  pub whole : is_whole (row_at_sample entry rule) ≡ true
  pub for_case : is_rule_for case rule ≡ true

abbrev pub NoneSays : Entry → DirCase → List ℕ → Type 0
NoneSays entry case word = (rule : DirRule) → IsSaid entry case word rule → ⊥

-- A cell with this word is ours, or it is changed to a rule that says the word.
pub record IsChanged (exclusive : Bool) (entry : Entry) (case : DirCase) (word : List ℕ) (rule : DirRule) : Type 0 where
  pub said : IsSaid entry case word rule
  pub not_ours : word ≢ our_text exclusive entry case
  pub asked : is_asked_at entry case ≡ true

abbrev pub IsReadAs : Bool → Entry → DirCase → List ℕ → Option DirRule → Type 0
IsReadAs exclusive entry case word None = word ≡ our_text exclusive entry case
IsReadAs exclusive entry case word (Some rule) = IsChanged exclusive entry case word rule

-- a word that can't occur at a cell, unless an allocation failed
pub record IsRefused (exclusive : Bool) (entry : Entry) (case : DirCase) (word : List ℕ) : Type 0 where
  pub not_ours : word ≢ our_text exclusive entry case
  pub no_rule : is_asked_at entry case ≡ true → NoneSays entry case word

abbrev pub IsRefusal : Bool → Entry → DirCase → List ℕ → TableFault → Type 0
IsRefusal exclusive entry case word faults.NoMemory = Unit {0}
IsRefusal exclusive entry case word _ = IsRefused exclusive entry case word

-- ---- cells of a text

abbrev pub setting_text : Bool → List ℕ
setting_text true = codes " (exclusive on)"
setting_text false = codes " (exclusive off)"

-- the line that counts under the other setting alone
abbrev pub IsOtherLine : Bool → List ℕ → Type 0
IsOtherLine exclusive name = name ≡ codes "I" ++ setting_text (not exclusive)

-- a line of an entry: of I maybe with the setting
abbrev pub IsIdleLine : Bool → Entry → List ℕ → Type 0
IsIdleLine exclusive entry name = (entry ≡ entries.I) × (name ≡ codes "I" ++ setting_text exclusive)

abbrev pub IsLine : Bool → Entry → List ℕ → Type 0
IsLine exclusive entry name = (holders_text (sample_of entry) ≡ name) ⊎ IsIdleLine exclusive entry name

-- the cell's line and column are those of an entry and a case
pub record IsPlace (exclusive : Bool) (entry : Entry) (case : DirCase) (cell : Cell) : Type 0 where
  pub line : IsLine exclusive entry cell.name
  pub column : cell.title ≡ title_of case

-- the cell says what the changed table says there
pub record IsSame (exclusive : Bool) (changes : List DirectoryChange) (cell : Cell) : Type 0 where
  pub entry : Entry
  pub case : DirCase
  pub place : IsPlace exclusive entry case cell
  pub same : text_in exclusive changes entry case ≡ cell.word

abbrev pub IsRead : Bool → List DirectoryChange → Cell → Type 0
IsRead exclusive changes cell = IsOtherLine exclusive cell.name ⊎ IsSame exclusive changes cell

-- the change is what the cell says, where our table says something else
pub record IsChange (exclusive : Bool) (change : DirectoryChange) (cell : Cell) : Type 0 where
  pub place : IsPlace exclusive change.entry change.case cell
  pub changed : IsChanged exclusive change.entry change.case cell.word change.rule

-- some of these cells says so
abbrev pub IsOfSome : Bool → List Cell → DirectoryChange → Type 0
IsOfSome exclusive cells change = Any (IsChange exclusive change) cells

-- the cell says what our table says there
abbrev pub SaysOurs : Bool → Cell → Type 0
SaysOurs exclusive cell =
    (entry : Entry) (case : DirCase) → IsPlace exclusive entry case cell → cell.word ≡ our_text exclusive entry case
