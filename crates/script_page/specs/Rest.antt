-- What a call of a slice leaves as it was: all but one line, what one core has of it, and if one is evicted for it a
-- second line.
use Rattle.std.specs.Prelude.{◌≡◌, ◌≢◌, ◌⊎◌, ℕ, List, length, Option, Some, None}
use Rattle.std.specs.List.{slice_get}
use Rattle.address_map.specs.Locator.{line_at}
use Rattle.address_map.specs.declared.address.CoreId.{CoreId}
use Rattle.address_map.specs.declared.address.LineAddr.{LineAddr}
use Rattle.address_map.specs.declared.address.Local.{Local}
use Rattle.address_map.specs.declared.config.Config.{Config}
use Rattle.litmus_script.specs.Machine.{OneSlice}
use Rattle.mshr_file.specs.Miss.{targets_of}
use Rattle.script_page.specs.Core.{victim_of}
use Rattle.script_page.specs.declared.scope.Scope.{Scope}
use Rattle.slice_core.specs.Facts.{Holds}
use Rattle.slice_core_cache.specs.CoreCache.{copy_of}
use Rattle.slice_core_spec.specs.Calls.{PartsView}
use Rattle.slice_core_spec.specs.View.{View, cache_at, channels_at, entry_at}

-- the step of a command with this scope gives the line, after which the slice is this one
abbrev pub Gives : Scope → View → LineAddr → Type 0
Gives scope v line = (scope.line ≡ Some line) ⊎ (victim_of v scope ≡ Some line)

-- The slice went from the one to the other, and what a step with this scope doesn't give is as it was: of each other
-- line the directory's entry, the home copy, all messages, and each core's copy with the accesses that wait; and all
-- that each other core has.
pub record LeavesRest (scope : Scope) (old new : View) : Type 0 where
  pub entries : (local : Local) → ¬ Gives scope new (line_at old.lines local) → entry_at new local ≡ entry_at old local
  pub channels : (local : Local) → ¬ Gives scope new (line_at old.lines local)
      → channels_at new local ≡ channels_at old local
  pub copies : (core : CoreId) (local : Local) → ¬ Gives scope new (line_at old.lines local)
      → copy_of (cache_at new core) local ≡ copy_of (cache_at old core) local
  pub targets : (core : CoreId) (local : Local) → ¬ Gives scope new (line_at old.lines local)
      → targets_of (cache_at new core).misses local.0 ≡ targets_of (cache_at old core).misses local.0
  pub cores : (core : CoreId) → scope.core ≢ Some core → cache_at new core ≡ cache_at old core

-- ---- a machine

-- Only what the step of a command with this scope gives has changed: nothing, or in one slice nothing else.
abbrev pub KeepsRest : Option Scope → List PartsView → List PartsView → Type 0
KeepsRest None old new = new ≡ old
KeepsRest (Some scope) old new =
    (new ≡ old) ⊎ OneSlice scope.slice (λ before after. LeavesRest scope before.view after.view) old new

-- each slice is as its calls leave it, and has the configured cores
abbrev pub AreSlices : Config → List PartsView → Type 0
AreSlices config slices =
    (slice : ℕ) (p : PartsView) → slice_get slices slice ≡ Some p
    → Holds p × (length p.view.caches ≡ config.cores)
