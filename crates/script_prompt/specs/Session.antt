-- What a session does with a line of a script, and what the machine of a script is.
use Rattle.std.specs.Prelude.{◌≡◌, ◌⊎◌, ℕ, ◌-◌, ◌<◌, ◌≤◌, ◌==◌, Bool, List, [], ◌∷◌, ◌++◌, codes, length, slice_get, take}
use Rattle.std.specs.Prelude.{Option, None, Some, if◌then◌else◌, true, unwrap_or}
use Rattle.std.specs.Str.Lines.{lines}
use Rattle.address_map.specs.declared.config.Config.{Config}
use Rattle.litmus_script.specs.Machine.{IsNewMachine}
use Rattle.litmus_script.specs.Play.{PlaysAll}
use Rattle.litmus_script.specs.Script.{Echoed, IsSetUp}
use Rattle.litmus_text.specs.Command.{IsRead}
use Rattle.litmus_text.specs.Statement.{kept_words, statements_from}
use Rattle.litmus_text.specs.declared.command.Command.{Command}
use Rattle.mshr_file.specs.Miss.{Bound}
use Rattle.script_explained.specs.Explains.{Explainingly}
use Rattle.slice_core_spec.specs.Calls.{PartsView}
use Rattle.script_prompt.specs.declared.session.Session.{Session}

-- The words write this command. It is done, its answer is printed with what happened, and the script goes on with the
-- line.
pub record PlaysLine (config : Config) (words : List (List ℕ)) (line : List ℕ) (command : Command)
    (old new : List PartsView)
    (before after : Option (List ℕ)) (old_script new_script : List ℕ) : Type 0 where
  pub read : IsRead config words command
  pub told : Explainingly config old line command before after new
  pub kept : new_script ≡ old_script ++ (line ++ codes "\n")

-- .. whatever was printed before it
abbrev pub IsPlayed : Config → List ℕ → List PartsView → List PartsView → List ℕ → List ℕ → Type 0
IsPlayed config line old new old_script new_script =
    (command : Command) × (before : Option (List ℕ)) × (after : Option (List ℕ))
    × PlaysLine config (kept_words line) line command old new before after old_script new_script

-- the lines are played, in order: each on the slices, and after the script, that the one before it left
abbrev pub PlaysLines : Config → List (List ℕ) → List PartsView → List PartsView → List ℕ → List ℕ → Type 0
PlaysLines config [] old new old_script new_script = (new ≡ old) × (new_script ≡ old_script)
PlaysLines config (line ∷ more) old new old_script new_script =
    (mid : List PartsView) × (script : List ℕ) × IsPlayed config line old mid old_script script
    × PlaysLines config more mid new script new_script

-- some lines are played, and nothing else
pub record IsContinued (config : Config) (old new : List PartsView) (old_script new_script : List ℕ) : Type 0 where
  pub lines : List (List ℕ)
  pub played : PlaysLines config lines old new old_script new_script

-- These commands lead from a new machine to these slices, and each one's line and answer with what happened is printed.
pub record IsPlayedTo (config : Config) (bound : Bound) (commands : List (ℕ × List (List ℕ))) (slices : List PartsView)
    (before after : Option (List ℕ)) : Type 0 where
  pub start : List PartsView
  pub fresh : IsNewMachine config bound start
  pub played : PlaysAll (Echoed true Explainingly config) config commands start slices before after

-- the slices are what the script leaves
pub record IsAfter (script : List ℕ) (config : Config) (slices : List PartsView)
    (before after : Option (List ℕ)) : Type 0 where
  pub bound : Bound
  pub commands : List (ℕ × List (List ℕ))
  pub set_up : IsSetUp (statements_from 0 (lines script)) config bound commands
  pub played : IsPlayedTo config bound commands slices before after

-- what a session has
abbrev pub config_of : Session → Config
config_of session = session.player.machine.config

abbrev pub slices_of : Session → List PartsView
slices_of session = session.player.machine.slices.items

abbrev pub script_of : Session → List ℕ
script_of session = session.script.items

-- ---- a script that is played anew

-- the session has this script, and its machine is the one that it leaves
pub record IsOpened (script : List ℕ) (session : Session) : Type 0 where
  pub kept : script_of session ≡ script
  pub before : Option (List ℕ)
  pub after : Option (List ℕ)
  pub machine : IsAfter script (config_of session) (slices_of session) before after

-- whether a text with this last byte has the end of its last line, and the text with that end
abbrev pub is_end : Option ℕ → Bool
is_end None = true
is_end (Some byte) = byte == 10

abbrev pub with_end : List ℕ → List ℕ
with_end text = if is_end (slice_get text (length text - 1)) then text else text ++ codes "\n"

-- from this byte on, or where none is named from somewhere in its last line, the script has nothing
abbrev pub HasNothing : Option ℕ → List ℕ → Type 0
HasNothing None script = script ≡ []
HasNothing (Some part) script = length script ≤ part

-- The script is played anew without what comes from this byte on, or where none is named without some end. If
-- nothing is there nothing has changed.
abbrev pub IsTakenBack : Option ℕ → Session → Session → Type 0
IsTakenBack part old new =
    (HasNothing part (script_of old) × (new ≡ old))
    ⊎ ((first : ℕ) × (unwrap_or part first ≡ first) × (first < length (script_of old))
    × IsOpened (with_end (take first (script_of old))) new)

-- the last of the parts is left out, if there is one
abbrev pub IsWithoutLast : List ℕ → Option ℕ → List ℕ → Type 0
IsWithoutLast parts None left = parts ≡ []
IsWithoutLast parts (Some part) left = parts ≡ left ++ part ∷ []

-- .. and the script is played anew without it
abbrev pub IsUndone : List ℕ → List ℕ → Session → Session → Type 0
IsUndone parts left old new =
    (part : Option ℕ) × IsWithoutLast parts part left × IsTakenBack part old new

-- nothing has changed, or the script with one line more is played anew
abbrev pub IsMadeWith : List ℕ → Session → Session → Type 0
IsMadeWith line old new = (new ≡ old) ⊎ IsOpened (with_end (with_end (script_of old) ++ line)) new
