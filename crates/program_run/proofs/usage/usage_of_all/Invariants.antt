use Rattle.std.proofs.Common.{◌≡◌, drop}
use Rattle.program_run.specs.Usage.{no_usage, usage_of_all}
use Rattle.program_run.proofs.usage.usage_of_all.Given as goal

-- with those that are left the cores so far are all
abbrev pub invariant-loop-usage : goal.invariant-loop-usage
invariant-loop-usage l = usage_of_all l.all (drop l.usage-index l.usages) ≡ usage_of_all no_usage l.usages
