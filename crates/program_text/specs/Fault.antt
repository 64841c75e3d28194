-- Which texts are programs, and why any other is read no further.
use Rattle.std.specs.Prelude.{◌≡◌, ◌⊎◌, ℕ, List, [], ◌∷◌, ◌++◌, None, Some, map, reverse}
use Rattle.std.specs.Str.Lines.{lines}
use Rattle.address_map.specs.Config.{first_fault}
use Rattle.address_map.specs.declared.config.ConfigError.{ConfigError}
use Rattle.litmus_text.specs.ConfigLine.{parts_of_config_line}
use Rattle.litmus_text.specs.Form.{IsFormFaultOf}
use Rattle.litmus_text.specs.Statement.{statements_from}
use Rattle.litmus_text.specs.declared.fault.LineFault.{LineFault}
use Rattle.litmus_text.specs.declared.fault.LineFault.TheVariants as line_faults
use Rattle.litmus_text.specs.declared.fault.TextFault.{TextFault}
use Rattle.litmus_text.specs.declared.fault.TextFault.TheVariants as text_faults
use Rattle.litmus_text.specs.declared.settings.Settings.{Settings}
use Rattle.program_text.specs.declared.programs.CoreProgram.{CoreProgram}
use Rattle.program_text.specs.declared.programs.Limits.{Limits}
use Rattle.program_text.specs.declared.programs.Programs.{Programs}
use Rattle.program_text.specs.declared.reader.Block.{Block}
use Rattle.program_text.specs.Judged.{fault_of}
use Rattle.program_text.specs.Keyword.{IsFormFault}
use Rattle.program_text.specs.Line.{Line, BeginsAsSetting, WritesLine}
use Rattle.program_text.specs.Text.{Program, Said, said_line, said_nothing}

-- a line of a text that says something: its number and its words
abbrev pub Statement : Type 0
Statement = ℕ × List (List ℕ)

-- after `said`, the statements say the whole: each writes a line in which nothing is wrong
unfoldable pub Says : Said → List Statement → Said → Type 0
Says said [] whole = said ≡ whole
Says said (statement ∷ more) whole =
    (line : Line) × (WritesLine statement.1 line × (fault_of said line ≡ None)
    × Says (said_line said statement.0 line) more whole)

-- the text says these programs, in its order, and what bounds a run: its configuration can be built, and each block has
-- its end
pub record IsProgramText (text : List ℕ) (settings : Settings) (limits : Limits) (programs : List Program) :
    Type 0 where
  pub said : Said
  pub says : Says said_nothing (statements_from 0 (lines text)) said
  pub configured : said.settings ≡ settings
  pub limited : said.limits ≡ limits
  pub checked : first_fault settings.config ≡ None
  pub closed : said.blocks ≡ []
  pub in_order : programs ≡ reverse said.programs

-- what was read
abbrev pub settings_of : Programs → Settings
settings_of programs = record { config = programs.config; misses = programs.misses }

abbrev pub program_of : CoreProgram → Program
program_of program = (program.core, program.steps.items)

abbrev pub programs_of : Programs → List Program
programs_of programs = map program_of programs.cores.items

-- ---- the first fault

-- the words write a line with this fault in its place
pub record IsMisplaced (said : Said) (words : List (List ℕ)) (fault : LineFault) : Type 0 where
  pub line : Line
  pub written : WritesLine words line
  pub judged : fault_of said line ≡ Some fault

-- They write none. They begin as a line that configures, and have the form of none or a bad number, or else as another
-- line.
pub record IsMalformedSetting (words : List (List ℕ)) (fault : LineFault) : Type 0 where
  pub begins : BeginsAsSetting words
  pub none : (line : Line) → ¬ WritesLine words line
  pub form : IsFormFaultOf parts_of_config_line words fault

pub record IsMalformedLine (words : List (List ℕ)) (fault : LineFault) : Type 0 where
  pub begins : ¬ BeginsAsSetting words
  pub none : (line : Line) → ¬ WritesLine words line
  pub form : IsFormFault words fault

-- what is wrong with words, after `said`
abbrev pub HasFault : Said → List (List ℕ) → LineFault → Type 0
HasFault said words fault =
    IsMisplaced said words fault ⊎ IsMalformedSetting words fault ⊎ IsMalformedLine words fault

-- the line of this number is the first at fault: those before it say so much, and it comes to be judged only where it
-- configures or the configuration is allowed
pub record IsFaultyLine (all : List Statement) (number : ℕ) (fault : LineFault) : Type 0 where
  pub before : List Statement
  pub words : List (List ℕ)
  pub behind : List Statement
  pub stands : all ≡ before ++ (number, words) ∷ behind
  pub said : Said
  pub says : Says said_nothing before said
  pub ready : BeginsAsSetting words ⊎ (first_fault said.settings.config ≡ None)
  pub has_fault : HasFault said words fault

-- all lines are read, and the innermost block that is left open begins at this line
pub record IsLeftOpen (all : List Statement) (number : ℕ) (fault : LineFault) : Type 0 where
  pub said : Said
  pub says : Says said_nothing all said
  pub checked : first_fault said.settings.config ≡ None
  pub innermost : Block
  pub outer : List Block
  pub open_blocks : said.blocks ≡ innermost ∷ outer
  pub here : number ≡ innermost.number
  pub no_end : fault ≡ line_faults.NotACommand

-- the first of the statements configures nothing, if there is one
abbrev pub BeginOtherwise : List Statement → Type 0
BeginOtherwise [] = Unit {0}
BeginOtherwise (statement ∷ more) = ¬ BeginsAsSetting statement.1

-- what the lines say that configure, up to the first other line or the end, has this fault
pub record IsConfigFault (all : List Statement) (error : ConfigError) : Type 0 where
  pub before : List Statement
  pub rest : List Statement
  pub split : all ≡ before ++ rest
  pub said : Said
  pub says : Says said_nothing before said
  pub early : said.programs ≡ []
  pub others : BeginOtherwise rest
  pub is_fault : first_fault said.settings.config ≡ Some error

-- why a text, by its statements, is read no further; there may also be no memory
abbrev pub IsFault : List Statement → TextFault → Type 0
IsFault all (text_faults.Line number fault) = IsFaultyLine all number fault ⊎ IsLeftOpen all number fault
IsFault all (text_faults.Config error) = IsConfigFault all error
IsFault all text_faults.NoMemory = Unit {0}
IsFault all text_faults.CannotWrite = ⊥
