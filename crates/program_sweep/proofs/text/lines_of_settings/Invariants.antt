use Rattle.std.proofs.Common.{◌≡◌, ◌++◌, drop}
use Rattle.program_sweep.specs.Text.{lines_of_settings}
use Rattle.program_sweep.proofs.text.lines_of_settings.Given as goal

-- the lines that are made, and those that are left, are all
abbrev pub invariant-loop-setting : goal.invariant-loop-setting
invariant-loop-setting l =
    l.text.items ++ lines_of_settings (drop l.setting-index l.settings) l.row ≡ lines_of_settings l.settings l.row
