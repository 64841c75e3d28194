use Rattle.std.proofs.Common.{List, ℕ, Option, drop}
use Rattle.std.specs.Io.KnownBytes.{Appends}
use Rattle.std.specs.List.{flat_map, range_with_len}
use Rattle.script_waves.specs.InUse.{text_of_core_use}
use Rattle.script_waves.proofs.in_use.write_slice.Given as goal

-- once the cores that are left are written, all are
abbrev pub invariant-loop-core : goal.invariant-loop-core
invariant-loop-core g l =
    let contents = g.W.Write.contents in
    (after : Option (List ℕ))
    → Appends (contents l.out) after (flat_map (text_of_core_use l.slice l.state.view) (drop l.core (range_with_len 0 l.cores)))
    → Appends (contents l.fn.out) after (flat_map (text_of_core_use l.slice l.state.view) (range_with_len 0 l.cores))
