use Rattle.std.proofs.Common.{◌≡◌, ◌++◌, drop, false}
use Rattle.script_test.specs.Exercise.{script_in}
use Rattle.script_test.proofs.exercise.script_of.Given as goal

abbrev pub invariant-loop-byte : goal.invariant-loop-byte
invariant-loop-byte l = l.script.items ++ script_in l.hidden (drop l.byte-index l.text) ≡ script_in false l.text
