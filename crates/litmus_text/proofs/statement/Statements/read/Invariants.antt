use Rattle.std.proofs.Common.{◌≡◌, ◌+◌, ◌<◌, ◌^◌, length}
use Rattle.litmus_text.specs.Statement.{statements_from}
use Rattle.litmus_text.proofs.statement.Statements.read.Given as goal

-- what was skipped was no statement
abbrev pub invariant-loop-line : goal.invariant-loop-line
invariant-loop-line l = record {
  same : statements_from l.self-inside.number l.self-inside.lines
      ≡ statements_from l.initial.self-inside.number l.initial.self-inside.lines;
  counted : l.self-inside.number + length l.self-inside.lines < 2 ^ 64;
}

abbrev pub decreases-loop-line : goal.decreases-loop-line
decreases-loop-line l = length l.self-inside.lines
