-- What can be wrong with a line of programs in its place.
use Rattle.std.specs.Prelude.{ℕ, ◌+◌, ◌/◌, ◌==◌, ◌&&◌, ◌||◌, Bool, true, false, not, nat_le, nat_lt, List, [], ◌∷◌}
use Rattle.std.specs.Prelude.{Option, None, Some, length, if◌then◌else◌}
use Rattle.std.specs.List.{list_any}
use Rattle.address_map.specs.declared.config.Config.{Config}
use Rattle.address_map.specs.declared.request.Op.{Op}
use Rattle.address_map.specs.declared.request.Op.TheVariants as ops
use Rattle.address_map.specs.declared.address.WordAddr.{WordAddr}
use Rattle.litmus_text.specs.declared.fault.LineFault.{LineFault}
use Rattle.litmus_text.specs.declared.fault.LineFault.TheVariants as line_faults
use Rattle.program_text.specs.declared.programs.TheConstants.{MOST_ACCESSES, MOST_DEPTH, MOST_OUTSTANDING}
use Rattle.program_text.specs.declared.programs.TheConstants.{MOST_PACE}
use Rattle.program_text.specs.Line.{Line, setting, limit, pace, begin, load, store, add, cas, settle, repeat, end}
use Rattle.program_text.specs.Text.{Program, Said, after_end, said_access, said_settle}

-- no program was begun, and no block is open
abbrev pub is_early : Said → Bool
is_early said = length said.programs == 0

-- a number was said
abbrev pub is_limited : Option ℕ → Bool
is_limited None = false
is_limited (Some most) = true

-- nothing was said but what configures
abbrev pub is_first : Said → Bool
is_first said = is_early said && (not (is_limited said.limits.outstanding) && not (is_limited said.limits.pace))

-- a program was begun, or this number was said
abbrev pub is_late : Said → Option ℕ → Bool
is_late said number = not (is_early said && not (is_limited number))

abbrev pub is_closed : Said → Bool
is_closed said = length said.blocks == 0

-- the machine lacks the core, or the word
abbrev pub lacks_core : Config → ℕ → Bool
lacks_core config c = not (nat_lt c config.cores)

abbrev pub lacks_word : Config → ℕ → Bool
lacks_word config word = not (nat_lt (word / 8) config.lines)

-- it lacks the first or the last word of a range, or the last is below the first
abbrev pub lacks_range : Config → ℕ → ℕ → Bool
lacks_range config first last = lacks_word config first || lacks_word config last || nat_lt last first

-- the core has a program
abbrev pub has_program : ℕ → List Program → Bool
has_program c programs = list_any (λ (program : Program). program.0.0 == c) programs

-- how many steps there are, and whether they are too many
abbrev pub count_of : List Program → ℕ
count_of [] = 0
count_of (program ∷ earlier) = length program.1 + count_of earlier

abbrev pub has_too_many : Said → Bool
has_too_many said = nat_lt MOST_ACCESSES (count_of said.programs)

-- the range has a counter, and the access would overwrite it
abbrev pub has_counter : Config → ℕ → ℕ → Bool
has_counter config first last =
    list_any (λ (counter : WordAddr). nat_le first counter.0 && nat_le counter.0 last) config.counters

abbrev pub overwrites : Op → Bool
overwrites ops.Load = false
overwrites (ops.Store value) = true
overwrites (ops.Add delta) = false
overwrites (ops.Cas expect new) = true

-- what an access can have wrong, in order
abbrev pub access_faults : Said → ℕ → ℕ → Op → List (Bool × LineFault)
access_faults said first last op =
    (is_early said, line_faults.NotACommand)
    ∷ (lacks_range said.settings.config first last, line_faults.OutOfRange)
    ∷ (has_too_many (said_access said first last op), line_faults.OutOfRange)
    ∷ (overwrites op && has_counter said.settings.config first last, line_faults.StoreToACounter) ∷ []

-- what a line can have wrong, in order
abbrev pub faults_of : Said → Line → List (Bool × LineFault)
faults_of said (setting line) = (not (is_first said), line_faults.LateConfiguration) ∷ []
faults_of said (limit most) =
    (is_late said said.limits.outstanding, line_faults.LateConfiguration)
    ∷ (most == 0 || nat_lt MOST_OUTSTANDING most, line_faults.OutOfRange) ∷ []
faults_of said (pace most) =
    (is_late said said.limits.pace, line_faults.LateConfiguration)
    ∷ (nat_lt MOST_PACE most, line_faults.OutOfRange) ∷ []
faults_of said (begin c) =
    (not (is_closed said), line_faults.NotACommand)
    ∷ (lacks_core said.settings.config c || has_program c said.programs, line_faults.OutOfRange) ∷ []
faults_of said (load first last) = access_faults said first last ops.Load
faults_of said (store first last value) = access_faults said first last (ops.Store value)
faults_of said (add first last delta) = access_faults said first last (ops.Add delta)
faults_of said (cas first last expect new) = access_faults said first last (ops.Cas expect new)
faults_of said settle =
    (is_early said, line_faults.NotACommand) ∷ (has_too_many (said_settle said), line_faults.OutOfRange) ∷ []
faults_of said (repeat n) =
    (is_early said, line_faults.NotACommand) ∷ (nat_le MOST_DEPTH (length said.blocks), line_faults.OutOfRange) ∷ []
faults_of said end =
    (is_closed said, line_faults.NotACommand) ∷ (has_too_many (after_end said.blocks said), line_faults.OutOfRange) ∷ []

-- the first of them that holds
unfoldable pub first_so : List (Bool × LineFault) → Option LineFault
first_so [] = None
first_so (judged ∷ more) = if judged.0 then Some judged.1 else first_so more

unfoldable pub fault_of : Said → Line → Option LineFault
fault_of said line = first_so (faults_of said line)
