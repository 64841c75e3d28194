use Rattle.std.proofs.Common.{◌≡◌, drop}
use Rattle.litmus_walk.specs.Drawn.{lines_of, named_lines}
use Rattle.litmus_walk.proofs.moves.named_lines.Given as goal

-- the threads that are left add what is missing
abbrev pub invariant-loop-thread : goal.invariant-loop-thread
invariant-loop-thread l = lines_of l.test ≡ named_lines l.lines.items (drop l.thread-index l.test.threads.items)
