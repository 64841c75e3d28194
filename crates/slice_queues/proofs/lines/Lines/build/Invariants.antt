use Rattle.std.proofs.Common.{◌≡◌, replicate}
use Rattle.slice_queues.specs.Runs.{blank_head}
use Rattle.slice_queues.proofs.lines.Lines.build.Given as goal

abbrev pub invariant-loop-line : goal.invariant-loop-line
invariant-loop-line l = l.heads.items ≡ replicate l.line blank_head
