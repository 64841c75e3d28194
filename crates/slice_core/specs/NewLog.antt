-- What a new log leaves of the one before: nothing but the values of the words.
use Rattle.std.specs.Prelude.{◌≡◌, ◌+◌, ◌<◌, ℕ, Bool, true, false, Result, Ok, Err}
use Rattle.address_map.specs.declared.address.Local.{Local}
use Rattle.slice_core_spec.specs.Calls.{PartsView}
use Rattle.slice_core_spec.specs.View.{IsQuiet, first_word}
use Rattle.slice_core_exec.specs.NewLog.{with_new_log}
use Rattle.slice_core_theory.specs.Shows.{small_machine_of}
use Rattle.slice_core_theory.specs.SmallMachine.{IsSame, new_small_machine}
use Rattle.slice_log.specs.Log.{initially, value}

-- What the call returns and leaves: a quiet slice begins a new log, as long as there is memory for that; and else
-- nothing changes.
abbrev pub AfterBeginLog : {E : Type 0} → PartsView → Result Bool E → PartsView → Type 0
AfterBeginLog old (Ok true) new = IsQuiet old.view × (new ≡ with_new_log old)
AfterBeginLog old (Ok false) new = (IsQuiet old.view → ⊥) × (new ≡ old)
AfterBeginLog old (Err error) new = IsQuiet old.view × (new ≡ old)

-- To an observer of only requests and replies the slice is one of which nothing was asked yet, in which each word
-- begins with the value that the log before left in it.
pub record BeginsAnew (old new : PartsView) : Type 0 where
  pub machine : IsSame new_small_machine (small_machine_of new.view)
  pub values : (local : Local) (offset : ℕ) → local.0 < old.view.lines.lines → offset < 8
      → initially new.view.init (first_word old.view local + offset)
      ≡ value (initially old.view.init (first_word old.view local + offset)) old.view.log (first_word old.view local + offset)

-- It begins again where a new log was begun.
abbrev pub BeginsAnewIf : {E : Type 0} → PartsView → Result Bool E → PartsView → Type 0
BeginsAnewIf old (Ok true) new = BeginsAnew old new
BeginsAnewIf old _ new = Unit {0}
