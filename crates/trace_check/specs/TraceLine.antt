-- How the lines of a trace are written.
use Rattle.std.specs.Prelude.{◌≡◌, ℕ, ◌<◌, List, [], ◌∷◌, ◌++◌, codes, if◌then◌else◌}
use Rattle.std.specs.Str.{bytes_eq}
use Rattle.address_map.specs.declared.request.Op.{Op}
use Rattle.address_map.specs.declared.request.Op.TheVariants as ops
use Rattle.slice_log.specs.declared.entry.Entry.{Entry}
use Rattle.litmus_text.specs.Form.{Part, key, num, Writes, HasForm, IsFaultOf}
use Rattle.litmus_text.specs.Command.{parts_of_op}
use Rattle.litmus_text.specs.declared.fault.LineFault.{LineFault}
use Rattle.trace_check.specs.declared.judge.TheConstants.{MOST_WORDS}
use Rattle.trace_check.specs.declared.trace_line.TheConstants.{MOST_TAGS}
use Rattle.trace_check.specs.declared.trace_line.Version.{Version}
use Rattle.trace_check.specs.declared.trace_line.Version.TheVariants as versions
use Rattle.trace_check.specs.declared.trace_line.TraceLine.{TraceLine}
use Rattle.trace_check.specs.declared.trace_line.TraceLine.TheVariants as trace_lines

-- the first line
abbrev pub number_of : Version → List ℕ
number_of versions.One = codes "1"
number_of versions.Two = codes "2"
number_of versions.WithoutSince = codes "no-since"

abbrev pub parts_of_first : Version → List Part
parts_of_first version = key (codes "lockup-trace") ∷ key (number_of version) ∷ []

-- the words are the first line of no version
abbrev pub IsNoFirstLine : List (List ℕ) → Type 0
IsNoFirstLine words = (version : Version) → ¬ Writes words (parts_of_first version)

-- each other line
abbrev pub parts_of_line : TraceLine → List Part
parts_of_line (trace_lines.Init word value) = key (codes "init") ∷ num word.0 ∷ num value ∷ []
parts_of_line (trace_lines.Entry e) =
    key (codes "entry") ∷ num e.core.0 ∷ num e.seq ∷ num e.tag
    ∷ (parts_of_op e.op e.word.0 ++ num e.reply ∷ num e.since ∷ [])

-- the number of cores that a trace can name
abbrev pub cores_of : Version → ℕ
cores_of versions.One = 16
cores_of versions.Two = 64
cores_of versions.WithoutSince = 64

-- version 1 can't express a compare-exchange
abbrev pub IsOfVersion : Version → Op → Type 0
IsOfVersion versions.One (ops.Cas expect new) = ⊥
IsOfVersion version op = Unit {0}

-- the first of the words is this one
abbrev pub BeginsWith : List ℕ → List (List ℕ) → Type 0
BeginsWith text [] = ⊥
BeginsWith text (word ∷ words) = word ≡ text

-- what an entry may name
pub record IsEntryOf (version : Version) (e : Entry) : Type 0 where
  pub op : IsOfVersion version e.op
  pub core : e.core.0 < cores_of version
  pub tag : e.tag < MOST_TAGS
  pub word : e.word.0 < MOST_WORDS

-- what a line may name
unfoldable pub IsInRange : Version → TraceLine → Type 0
IsInRange version (trace_lines.Init word value) = word.0 < MOST_WORDS
IsInRange version (trace_lines.Entry e) = IsEntryOf version e

-- the words of an entry after its name, with SINCE: if the version leaves it out, it is 0
abbrev pub with_since : Version → List (List ℕ) → List (List ℕ)
with_since versions.WithoutSince words = words ++ codes "0" ∷ []
with_since version words = words

-- .. of a line: only of an entry, which begins with its name
abbrev pub line_with_since : Version → List (List ℕ) → List (List ℕ)
line_with_since version [] = []
line_with_since version (name ∷ words) = if bytes_eq name (codes "entry") then name ∷ with_since version words else name
    ∷ words

-- the words write the line
pub record IsLineOf (version : Version) (words : List (List ℕ)) (line : TraceLine) : Type 0 where
  pub written : Writes (line_with_since version words) (parts_of_line line)
  pub in_range : IsInRange version line

-- the words write no line of a trace of this version
abbrev pub IsNoLineOf : Version → List (List ℕ) → Type 0
IsNoLineOf version words = (line : TraceLine) → ¬ IsLineOf version words line

-- the version can express the line
abbrev pub IsKnownTo : Version → TraceLine → Type 0
IsKnownTo version (trace_lines.Init word value) = Unit {0}
IsKnownTo version (trace_lines.Entry e) = IsOfVersion version e.op

-- the words have the form of the line
abbrev pub HasFormOf : Version → List (List ℕ) → TraceLine → Type 0
HasFormOf version words line = HasForm (line_with_since version words) (parts_of_line line) × IsKnownTo version line

-- the words say the line, whether a trace can name what it names or not
abbrev pub SaysLine : Version → List (List ℕ) → TraceLine → Type 0
SaysLine version words line = Writes (line_with_since version words) (parts_of_line line) × IsKnownTo version line

-- What is wrong with words that are no line of a trace of this version. They have the form of none; or of one, but with
-- a number that can't be read; or they say one that names what no trace can.
abbrev pub IsFaultOfLine : Version → List (List ℕ) → LineFault → Type 0
IsFaultOfLine version words fault =
    IsFaultOf (HasFormOf version words) (SaysLine version words) (IsInRange version) fault
