use Rattle.std.proofs.Common.{ℕ, List, Option, length}
use Rattle.script_coverage.specs.Read.{AddsLines, IsStopped}
use Rattle.script_coverage.specs.declared.read.Unread.{Unread}
use Rattle.script_coverage.proofs.coverage.Coverage.read_lines.Given as goal

-- once the lines that are left are read, all are
abbrev pub invariant-lines : goal.invariant-lines
invariant-lines l = record {
  all : (new : List (Option ℕ)) → AddsLines l.statements l.self new → AddsLines l.fn.statements l.fn.self new;
  up_to : (new : List (Option ℕ)) (unread : Unread) → IsStopped l.statements l.self new unread
      → IsStopped l.fn.statements l.fn.self new unread;
}

abbrev pub decreases-lines : goal.decreases-lines
decreases-lines l = length l.statements
