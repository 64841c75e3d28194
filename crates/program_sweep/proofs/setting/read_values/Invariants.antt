use denote.Shadow.{shadow}
use denote.Text.{Utf8}
use Rattle.std.proofs.Common.{◌≡◌, ◌++◌, length, map}
use Rattle.std.specs.Prelude.{◌==◌}
use Rattle.std.specs.List.{slice_split}
use Rattle.program_sweep.proofs.setting.read_values.Given as goal

-- the values so far, and those that are left, are all
abbrev pub invariant-loop-value : goal.invariant-loop-value
invariant-loop-value l = record {
  text : shadow (Utf8 l.rest);
  whole : map (λ value. value.now) l.values.items ++ slice_split (λ b. b == 44) l.rest
      ≡ slice_split (λ b. b == 44) l.fn.listed;
}

abbrev pub decreases-loop-value : goal.decreases-loop-value
decreases-loop-value l = length l.rest
