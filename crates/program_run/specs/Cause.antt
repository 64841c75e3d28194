-- Why an access misses: a function of what happened before. Events are listed with the newest first.
use Rattle.std.specs.Prelude.{ℕ, Bool, true, false, ◌==◌, ◌&&◌, ◌||◌, ◌/◌, not, List, [], ◌∷◌, if◌then◌else◌}
use Rattle.program_run.specs.declared.cause.Cause.{Cause}
use Rattle.program_run.specs.declared.cause.Cause.TheVariants as causes
use Rattle.program_run.specs.declared.cause.Event.{Event}
use Rattle.program_run.specs.declared.cause.Event.TheVariants as events
use Rattle.program_run.specs.declared.cause.Fate.{Fate}
use Rattle.program_run.specs.declared.cause.Fate.TheVariants as fates

-- what last became of the core's copy of the line
abbrev pub fate_of : ℕ → ℕ → List Event → Fate
fate_of core line [] = fates.Never
fate_of core line (events.Took c l ∷ before) =
    if c.0 == core && l.0 == line then fates.Held else fate_of core line before
fate_of core line (events.GaveUp c l ∷ before) =
    if c.0 == core && l.0 == line then fates.Replaced else fate_of core line before
fate_of core line (events.Lost c l ∷ before) =
    if c.0 == core && l.0 == line then fates.Lost else fate_of core line before
fate_of core line (events.Wrote c w ∷ before) = fate_of core line before

-- whether another core wrote the word since this one lost the word's line
abbrev pub is_written_since : ℕ → ℕ → List Event → Bool
is_written_since core word [] = false
is_written_since core word (events.Wrote c w ∷ before) =
    (not (c.0 == core) && w.0 == word) || is_written_since core word before
is_written_since core word (events.Lost c l ∷ before) =
    if c.0 == core && l.0 == word / 8 then false else is_written_since core word before
is_written_since core word (events.Took c l ∷ before) = is_written_since core word before
is_written_since core word (events.GaveUp c l ∷ before) = is_written_since core word before

-- the cause, by what became of the line and whether the word was written since
abbrev pub cause_by : Fate → Bool → Cause
cause_by fates.Never written = causes.Cold
cause_by fates.Held written = causes.Upgrade
cause_by fates.Replaced written = causes.Replaced
cause_by fates.Lost true = causes.TrueSharing
cause_by fates.Lost false = causes.FalseSharing

-- why an access of the core to the word misses, after these events
abbrev pub cause_of : ℕ → ℕ → List Event → Cause
cause_of core word before = cause_by (fate_of core (word / 8) before) (is_written_since core word before)
