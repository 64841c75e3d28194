-- What a text of programs says.
use Rattle.std.specs.Prelude.{◌≡◌, ℕ, zero, suc, ◌+◌, ◌-◌, List, [], ◌∷◌, ◌++◌, drop, length, map, take}
use Rattle.std.specs.Prelude.{None, Some}
use Rattle.std.specs.List.{range_with_len}
use Rattle.address_map.specs.declared.address.CoreId.{CoreId}
use Rattle.address_map.specs.declared.request.Op.{Op}
use Rattle.address_map.specs.declared.request.Op.TheVariants as ops
use Rattle.litmus_text.specs.ConfigLine.{after_config_line}
use Rattle.litmus_text.specs.Settings.{default_settings}
use Rattle.litmus_text.specs.declared.settings.Settings.{Settings}
use Rattle.program_text.specs.declared.programs.Limits.{Limits}
use Rattle.program_text.specs.declared.programs.Step.{Step}
use Rattle.program_text.specs.declared.programs.Step.TheVariants as step_kinds
use Rattle.program_text.specs.declared.reader.Block.{Block}
use Rattle.program_text.specs.Line.{Line, setting, limit, pace, begin, load, store, add, cas, settle, repeat, end}

-- a core and its steps
abbrev pub Program : Type 0
Program = CoreId × List Step

-- what was said so far: what bounds a run, the programs, the last one first, and the blocks without an end, the
-- innermost first
pub record Said : Type 0 where
  pub settings : Settings
  pub limits : Limits
  pub programs : List Program
  pub blocks : List Block

-- nothing bounds a run
abbrev pub no_limits : Limits
no_limits = record { outstanding = None; pace = None }

abbrev pub said_nothing : Said
said_nothing = record { settings = default_settings; limits = no_limits; programs = []; blocks = [] }

-- the last program's steps change
abbrev pub with_steps : (List Step → List Step) → List Program → List Program
with_steps change [] = []
with_steps change (last ∷ earlier) = (last.0, change last.1) ∷ earlier

-- how many steps the last program has
abbrev pub last_steps : List Program → ℕ
last_steps [] = 0
last_steps (last ∷ earlier) = length last.1

-- an access to each word from the first to the last
abbrev pub access_to : Op → ℕ → Step
access_to op word = step_kinds.Access (record { word = record { 0 = word }; op = op })

abbrev pub spread : ℕ → ℕ → Op → List Step
spread first last op = map (access_to op) (range_with_len first (last + 1 - first))

-- the steps `n` times
abbrev pub times : ℕ → List Step → List Step
times zero steps = []
times (suc n) steps = steps ++ times n steps

-- all steps after the first `start` are there `n` times
abbrev pub written_out : ℕ → ℕ → List Step → List Step
written_out start n steps = take start steps ++ times n (drop start steps)

-- the steps to a range of words are said
abbrev pub said_access : Said → ℕ → ℕ → Op → Said
said_access said first last op =
    record said { programs = with_steps (λ steps. steps ++ spread first last op) said.programs }

-- that the core waits is said
abbrev pub said_settle : Said → Said
said_settle said = record said { programs = with_steps (λ steps. steps ++ step_kinds.Settle ∷ []) said.programs }

-- the innermost block ends
abbrev pub after_end : List Block → Said → Said
after_end [] said = said
after_end (block ∷ outer) said =
    record said { programs = with_steps (written_out block.start block.times) said.programs; blocks = outer }

-- what is said once the line with this number was read
abbrev pub said_line : Said → ℕ → Line → Said
said_line said number (setting line) = record said { settings = after_config_line said.settings line }
said_line said number (limit most) = record said { limits = record (said.limits) { outstanding = Some most } }
said_line said number (pace most) = record said { limits = record (said.limits) { pace = Some most } }
said_line said number (begin c) = record said { programs = (record { 0 = c }, []) ∷ said.programs }
said_line said number (load first last) = said_access said first last ops.Load
said_line said number (store first last value) = said_access said first last (ops.Store value)
said_line said number (add first last delta) = said_access said first last (ops.Add delta)
said_line said number (cas first last expect new) = said_access said first last (ops.Cas expect new)
said_line said number settle = said_settle said
said_line said number (repeat n) =
    record said { blocks = record { number = number; times = n; start = last_steps said.programs } ∷ said.blocks }
said_line said number end = after_end said.blocks said
