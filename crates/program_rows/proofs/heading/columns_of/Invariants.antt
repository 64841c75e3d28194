use Rattle.std.proofs.Common.{◌<◌, IfSome}
use Rattle.program_rows.proofs.heading.columns_of.Given as goal

abbrev pub invariant-loop-column : goal.invariant-loop-column
invariant-loop-column l = IfSome l.settings (λ settings. settings < l.column)
