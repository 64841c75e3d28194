-- What a reader of a litmus test knows while reading.
use Rattle.std.specs.Prelude.{◌≡◌, ℕ, ◌+◌, ◌≤◌, List, [], ◌++◌, length, Result, IfOk, IfErr, IsTrue}
use Rattle.litmus_text.specs.declared.fault.LineFault.{LineFault}
use Rattle.litmus_text.specs.declared.fault.TextFault.{TextFault}
use Rattle.litmus_text.specs.declared.fault.TextFault.TheVariants as text_faults
use Rattle.litmus_test.specs.declared.line.Line.{Line as ReadLine}
use Rattle.litmus_test.specs.declared.preamble.Preamble.{Preamble}
use Rattle.litmus_test.specs.declared.version.Version.{Version}
use Rattle.litmus_test.specs.declared.test.TheConstants.{MOST_PAIRS}
use Rattle.litmus_test.specs.Name.{is_name}
use Rattle.litmus_test.specs.Sound.{IsChecked}
use Rattle.litmus_test.specs.Line.{Line, load, add, cas, forbid, WritesLine, line_of}
use Rattle.litmus_test.specs.Text.{Said, Says, MayFollow}

-- what words are read as: the one line that they write, or a fault if they write none
pub record ReadsAs (version : Version) (words : List (List ℕ)) (result : Result ReadLine LineFault) : Type 0 where
  pub written : IfOk result (λ line. WritesLine version words (line_of line))
  pub only : IfOk result (λ line. (other : Line) → WritesLine version words other → other ≡ line_of line)
  pub refused : IfErr result (λ fault. (other : Line) → WritesLine version words other → ⊥)

-- why reading a text stopped: memory ran out, or it is refused for this
abbrev pub IsNoMemoryOr : Type 0 → TextFault → Type 0
IsNoMemoryOr refused text_faults.NoMemory = Unit {0}
IsNoMemoryOr refused (text_faults.Line number fault) = refused
IsNoMemoryOr refused (text_faults.Config error) = refused
IsNoMemoryOr refused text_faults.CannotWrite = ⊥

-- the words write no line that may come next
abbrev pub IsNoNextLine : Version → Said → List (List ℕ) → Type 0
IsNoNextLine version said words = (line : Line) → WritesLine version words line → ¬ MayFollow said line

-- if `start` was said before all statements, `said` was said before those that are left
pub record IsReading (version : Version) (start said : Said) (all left : List (ℕ × List (List ℕ))) : Type 0 where
  pub done : List (ℕ × List (List ℕ))
  pub split : done ++ left ≡ all
  pub says : Says version start done said
  pub only : (other : Said) → Says version start done other → other ≡ said

-- a thread or an outcome was said
abbrev pub IsBegun : Said → Type 0
IsBegun said = 1 ≤ length said.threads + length said.forbidden

-- what the settings say
unfoldable pub said_first : Preamble → Said
said_first preamble = record {
  settings = preamble.settings;
  rounds = preamble.rounds;
  movers = preamble.movers;
  threads = [];
  names = [];
  forbidden = [];
}

-- after `said` was said, the statements say the whole, and nothing else
pub record SayOnly (version : Version) (said : Said) (statements : List (ℕ × List (List ℕ)))
    (whole : Said) : Type 0 where
  pub says : Says version said statements whole
  pub only : (other : Said) → Says version said statements other → other ≡ whole

-- they say nothing that is a test
abbrev pub SayNothing : Version → Said → List (ℕ × List (List ℕ)) → Type 0
SayNothing version said statements =
    (whole : Said) → Says version said statements whole → ¬ IsChecked whole.settings.config

-- the names in a line have the form of names, and claims are one to 16
abbrev pub HasNames : Line → Type 0
HasNames (load word name) = IsTrue (is_name name)
HasNames (add word delta name) = IsTrue (is_name name)
HasNames (cas word expect new name) = IsTrue (is_name name)
HasNames (forbid claims) = (1 ≤ length claims) × (length claims ≤ MOST_PAIRS)
HasNames line = Unit {0}
