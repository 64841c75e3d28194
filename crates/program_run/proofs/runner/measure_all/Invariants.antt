use Rattle.std.proofs.Common.{◌≡◌, ◌++◌, drop, length, map, take}
use Rattle.program_run.specs.Run.{measured_place}
use Rattle.program_run.proofs.runner.measure_all.Given as goal

-- those so far are measured, and with the others measured too all are
abbrev pub invariant-loop-number : goal.invariant-loop-number
invariant-loop-number l = record {
  many : length l.places.items ≡ length l.fn.places.items;
  whole : map measured_place l.fn.places.items
      ≡ take l.number l.places.items ++ map measured_place (drop l.number l.places.items);
}
