-- The calls that a run makes of its machine, and the script that they are.
use Rattle.std.specs.Prelude.{ℕ, Bool, List, [], ◌∷◌, ◌++◌, if◌then◌else◌}
use Rattle.std.specs.List.{flat_map}
use Rattle.address_map.specs.declared.config.Config.{Config}
use Rattle.litmus_text.specs.Command.{parts_of}
use Rattle.litmus_text.specs.declared.command.Command.{Command}
use Rattle.mshr_file.specs.declared.kind.MissKind.{MissKind}
use Rattle.litmus_text.specs.Line.{line_of_parts}
use Rattle.litmus_text.specs.SettingsLines.{lines_of_settings, text_of_lines}

-- the calls that were made, in order, if they are wanted
pub record CallsView : Type 0 where
  pub wanted : Bool
  pub made : List Command

-- none was made
abbrev pub no_calls : Bool → CallsView
no_calls wanted = record { wanted = wanted; made = [] }

-- one more is made
abbrev pub with_call : Command → CallsView → CallsView
with_call call calls = if calls.wanted then record calls { made = calls.made ++ call ∷ [] } else calls

-- the lines of calls
abbrev pub text_of_calls : List Command → List ℕ
text_of_calls calls = flat_map (λ call. line_of_parts (parts_of call)) calls

-- what configures the machine, and then each call
abbrev pub text_of_script : Config → MissKind → List Command → List ℕ
text_of_script config misses calls = text_of_lines (lines_of_settings config misses) ++ text_of_calls calls
