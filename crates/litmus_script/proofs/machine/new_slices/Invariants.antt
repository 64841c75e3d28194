use Rattle.std.proofs.Common.{◌≡◌, length}
use Rattle.litmus_script.specs.Machine.{AreNew, AreSlicesOf}
use Rattle.mshr_file.specs.Either.{either_bound}
use Rattle.litmus_script.proofs.machine.new_slices.Given as goal

abbrev pub invariant-loop-slice : goal.invariant-loop-slice
invariant-loop-slice l = record {
  count : length l.slices.items ≡ l.slice;
  each : AreSlicesOf l.config l.slices.items;
  fresh : AreNew l.config (either_bound l.empty) l.slices.items;
}
