use Rattle.std.proofs.Common.{◌≡◌, ℕ, List, Option}
use Rattle.std.specs.Io.KnownBytes.{Appends}
use Rattle.std.specs.List.{flat_map}
use Rattle.litmus_threads.proofs.Lines.{numbers_from}
use Rattle.litmus.specs.Traces.{text_of_slice, text_of_slices}
use Rattle.litmus.proofs.traces.write_logs.Given as goal

-- after the logs of the remaining slices all are written
abbrev pub invariant-loop-slice : goal.invariant-loop-slice
invariant-loop-slice g l =
    let contents = g.W.Write.contents in
    let built = l.fn.machine.config in
    let states = l.fn.machine.slices.items in
    record {
      written : (after : Option (List ℕ))
          → Appends (contents l.out) after (flat_map (text_of_slice built states) (numbers_from l.slice built.slices))
          → Appends (contents l.fn.out) after (text_of_slices built states built.slices);
    }
