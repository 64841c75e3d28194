use Rattle.std.proofs.Common.{◌≡◌, drop}
use Rattle.program_sweep.specs.Text.{bounding_in}
use Rattle.program_sweep.proofs.sweep.bound_in.Given as goal

-- the first of the settings that are left is the first of all
abbrev pub invariant-loop-setting : goal.invariant-loop-setting
invariant-loop-setting l = bounding_in l.bound (drop l.setting-index l.settings) ≡ bounding_in l.bound l.settings
