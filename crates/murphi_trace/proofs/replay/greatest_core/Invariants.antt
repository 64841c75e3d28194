use Rattle.std.proofs.Common.{◌≡◌, ◌<◌}
use Rattle.std.specs.Prelude.{max}
use Rattle.std.specs.Str.Lines.{lines}
use Rattle.murphi_trace.specs.Script.{greatest_core, steps_in}
use Rattle.murphi_trace.proofs.replay.greatest_core.Given as goal

abbrev pub invariant-loop-line : goal.invariant-loop-line
invariant-loop-line l = record {
  greatest : max l.last (greatest_core (steps_in l.line-iterator)) ≡ greatest_core (steps_in (lines l.fn.trace));
  small : l.last < 10;
}
