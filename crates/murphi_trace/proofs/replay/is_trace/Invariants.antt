use Rattle.std.proofs.Common.{◌≡◌}
use Rattle.std.specs.Prelude.{is_some}
use Rattle.std.specs.List.{list_any}
use Rattle.std.specs.Str.Lines.{lines}
use Rattle.murphi_trace.specs.Fired.{fired_by}
use Rattle.murphi_trace.proofs.replay.is_trace.Given as goal

abbrev pub invariant-loop-line : goal.invariant-loop-line
invariant-loop-line l =
    list_any (λ line. is_some (fired_by line)) l.line-iterator
    ≡ list_any (λ line. is_some (fired_by line)) (lines l.fn.trace)
