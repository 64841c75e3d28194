use Rattle.std.proofs.Common.{ℕ, List, Option, drop, map}
use Rattle.std.specs.Io.KnownBytes.{Appends}
use Rattle.std.specs.List.{flat_map}
use Rattle.script_test.specs.Judged.{text_of_difference, unlike_of}
use Rattle.script_test.proofs.print.write_differences.Given as goal

-- once the differences that are left are written, all are
abbrev pub invariant-loop-difference : goal.invariant-loop-difference
invariant-loop-difference g l =
    let contents = g.W.Write.contents in
    (after : Option (List ℕ))
    → Appends (contents l.out) after (flat_map text_of_difference (map unlike_of (drop l.difference-index l.differences)))
    → Appends (contents l.fn.out) after (flat_map text_of_difference (map unlike_of l.differences))
