-- A slice of a machine begins a new log.
use Rattle.std.specs.Prelude.{ℕ, Bool, List, Result}
use Rattle.std.specs.declared.alloc.AllocError.{AllocError}
use Rattle.litmus_script.specs.Machine.{OneSlice}
use Rattle.slice_core.specs.NewLog.{AfterBeginLog, BeginsAnewIf}
use Rattle.slice_core_spec.specs.Calls.{PartsView}

-- the slice answered so, and left this; where it begins anew, to an observer of requests and replies alone it is one
-- for which nothing was asked yet
pub record BeginsLog (answer : Result Bool AllocError) (old new : PartsView) : Type 0 where
  pub step : AfterBeginLog old answer new
  pub anew : BeginsAnewIf old answer new

-- one slice of the machine did
abbrev pub BeginsLogAt : ℕ → Result Bool AllocError → List PartsView → List PartsView → Type 0
BeginsLogAt slice answer old new = OneSlice slice (BeginsLog answer) old new
