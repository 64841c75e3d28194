-- What a reader of programs knows on its way.
use Rattle.std.specs.Prelude.{◌≡◌, ℕ, ◌≤◌, List, [], ◌++◌, length, map, reverse, Result, IfErr, IfOk, None, Some}
use Rattle.address_map.specs.Config.{IsAllowed, first_fault}
use Rattle.litmus_text.specs.declared.fault.LineFault.{LineFault}
use Rattle.litmus_text.specs.declared.fault.TextFault.{TextFault}
use Rattle.litmus_text.specs.declared.fault.TextFault.TheVariants as text_faults
use Rattle.litmus_text.specs.declared.statement.Statement.{Statement as ReadStatement}
use Rattle.litmus_text.specs.declared.settings.Settings.{Settings}
use Rattle.program_text.specs.declared.line.Line.{Line as ReadLine}
use Rattle.program_text.specs.declared.programs.Programs.{Programs}
use Rattle.program_text.specs.declared.programs.TheConstants.{MOST_ACCESSES}
use Rattle.program_text.specs.declared.reader.Reader.{Reader}
use Rattle.program_text.specs.Fault.{Says, Statement, programs_of, settings_of}
use Rattle.program_text.specs.Judged.{count_of, fault_of}
use Rattle.program_text.specs.Line.{Line, WritesLine, line_of}
use Rattle.program_text.specs.Text.{Said, no_limits, said_nothing}

-- what words are read as that begin as no setting: the one line that they write, or a fault where they write none
pub record ReadsAs (words : List (List ℕ)) (result : Result ReadLine LineFault) : Type 0 where
  pub written : IfOk result (λ line. WritesLine words (line_of line))
  pub only : IfOk result (λ line. (other : Line) → WritesLine words other → other ≡ line_of line)
  pub refused : IfErr result (λ fault. (other : Line) → WritesLine words other → ⊥)

-- what a reader has read, and what settings alone say
unfoldable pub said_by : Reader → Said
said_by reader = record {
  settings = settings_of reader.programs;
  limits = reader.programs.limits;
  programs = reverse (programs_of reader.programs);
  blocks = reverse reader.blocks.items;
}

abbrev pub said_first : Settings → Said
said_first settings = record { settings = settings; limits = no_limits; programs = []; blocks = [] }

-- its count is right, and not too great, a block is open only in a program, and its configuration is allowed
pub record IsSoundReader (reader : Reader) : Type 0 where
  pub count : reader.steps ≡ count_of (reverse (programs_of reader.programs))
  pub few : reader.steps ≤ MOST_ACCESSES
  pub begun : 1 ≤ length reader.blocks.items → 1 ≤ length reader.programs.cores.items
  pub checked : first_fault reader.programs.config ≡ None
  pub allowed : IsAllowed reader.programs.config

-- a line that was read, by its number and its words
abbrev pub said_in : ReadStatement → Statement
said_in statement = (statement.number, map (λ w. w.now) statement.words.items)

-- `said` was read before the statements that are left
pub record IsReading (all : List Statement) (said : Said) (left : List Statement) : Type 0 where
  pub done : List Statement
  pub split : done ++ left ≡ all
  pub says : Says said_nothing done said
  pub only : (other : Said) → Says said_nothing done other → other ≡ said

-- all statements were read, and say these programs
abbrev pub IsRead : List Statement → Programs → Type 0
IsRead all programs =
    (said : Said) × (IsReading all said [] × (said.settings ≡ settings_of programs)
    × (said.limits ≡ programs.limits) × (first_fault programs.config ≡ None) × (said.blocks ≡ [])
    × (programs_of programs ≡ reverse said.programs))

-- why a line isn't taken: there was no memory, or it is at fault in its place
abbrev pub IsPlaceFault : Said → ℕ → Line → TextFault → Type 0
IsPlaceFault said number line (text_faults.Line n fault) = (n ≡ number) × (fault_of said line ≡ Some fault)
IsPlaceFault said number line (text_faults.Config error) = ⊥
IsPlaceFault said number line text_faults.NoMemory = Unit {0}
IsPlaceFault said number line text_faults.CannotWrite = ⊥
