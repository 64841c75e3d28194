use Rattle.std.proofs.Common.{◌≡◌}
use Rattle.std.specs.List.{list_any}
use Rattle.std.specs.Str.Lines.{lines}
use Rattle.murphi_trace.specs.Fired.{fired_in}
use Rattle.murphi_trace.specs.Script.{names_data_e}
use Rattle.murphi_trace.proofs.replay.is_exclusive.Given as goal

abbrev pub invariant-loop-line : goal.invariant-loop-line
invariant-loop-line l =
    list_any names_data_e (fired_in l.line-iterator) ≡ list_any names_data_e (fired_in (lines l.fn.trace))
