use Rattle.std.proofs.Common.{◌≤◌, length}
use Rattle.program_rows.proofs.line.split_settings.Given as goal

abbrev pub invariant-loop : goal.invariant-loop
invariant-loop l = length l.rest ≤ length l.line
