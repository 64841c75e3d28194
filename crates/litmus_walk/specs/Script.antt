-- A walk as a script.
use Rattle.std.specs.Prelude.{◌≡◌, ℕ, All, List, [], ◌++◌, codes, decimal, Option, Some, None}
use Rattle.std.specs.Io.KnownBytes.{Appends}
use Rattle.std.specs.List.{flat_map}
use Rattle.address_map.specs.declared.config.Config.{Config}
use Rattle.litmus_test.specs.declared.test.LitmusTest.{LitmusTest}
use Rattle.litmus_text.specs.Command.{parts_of}
use Rattle.mshr_file.specs.declared.kind.MissKind.{MissKind}
use Rattle.litmus_walk.specs.Done.{AreDone}
use Rattle.litmus_walk.specs.Drawn.{IsDrawn, lines_of}
use Rattle.litmus_walk.specs.declared.place.StepPlace.{StepPlace}
use Rattle.litmus_walk.specs.declared.recorded.Made.{Made}
use Rattle.litmus_walk.specs.declared.round.End.{End}
use Rattle.litmus_walk.specs.declared.round.End.TheVariants as ends
use Rattle.litmus_walk.specs.Walk.{WalkView, IsWalkOf}
use Rattle.mshr_file.specs.Miss.{Bound}
use Rattle.slice_core_spec.specs.View.{IsQuiet}
use Rattle.litmus_text.specs.Line.{line_of_parts}
use Rattle.litmus_text.specs.SettingsLines.{lines_of_settings, text_of_lines}

-- a comment that names the step that makes the call, if one does
abbrev pub text_of_step : Option StepPlace → List ℕ
text_of_step None = []
text_of_step (Some at) =
    codes "# thread " ++ (decimal at.thread ++ (codes ", step " ++ (decimal at.step ++ codes "\n")))

-- the line of a call, after such a comment
abbrev pub text_of_call : Made → List ℕ
text_of_call made = text_of_step made.step ++ line_of_parts (parts_of made.command)

abbrev pub text_of_calls : List Made → List ℕ
text_of_calls calls = flat_map text_of_call calls

-- what configures the machine, and then each call
abbrev pub text_of_script : Config → MissKind → List Made → List ℕ
text_of_script config misses calls = text_of_lines (lines_of_settings config misses) ++ text_of_calls calls

-- the status of a walk that ends so
abbrev pub status_of : End → ℕ
status_of ends.Over = 0
status_of end = 1

-- The walk that the seed draws, with at most `most` moves, is printed as a script, after what was written before.
-- Status 0 means that it is over.
pub record PrintsWalk (test : LitmusTest) (bound : Bound) (seed most status : ℕ) (before after : Option (List ℕ)) :
    Type 0
  where
    pub walk : WalkView
    pub walked : IsWalkOf test bound walk
    pub end : End
    pub drawn : IsDrawn test bound (lines_of test) seed most end walk
    pub told : status ≡ status_of end
    pub over : status ≡ 0 → All (λ state. IsQuiet state.view) walk.slices
    pub done : status ≡ 0 → AreDone test.threads.items walk.calls
    pub printed : Appends before after (text_of_script test.config test.misses walk.calls)
