use Rattle.std.proofs.Common.{ℕ, List, [], Option}
use Rattle.std.specs.Io.KnownBytes.{Appends}
use Rattle.std.specs.List.{flat_map}
use Rattle.script_explained.specs.Rows.{row_of}
use Rattle.script_explained.proofs.rows.write_further.Given as goal

-- once the lines that are left are written, all are
abbrev pub invariant-loop-line : goal.invariant-loop-line
invariant-loop-line g l =
    let contents = g.W.Write.contents in
    (after : Option (List ℕ)) → Appends (contents l.out) after (flat_map (row_of []) l.line-iterator)
    → Appends (contents l.fn.out) after (flat_map (row_of []) l.fn.lines)
