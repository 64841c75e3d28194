use Rattle.std.proofs.Common.{List, ℕ, Option, drop}
use Rattle.std.specs.Io.KnownBytes.{Appends}
use Rattle.script_waves.specs.InUse.{text_of_uses}
use Rattle.script_waves.proofs.in_use.write_slices.Given as goal

-- once the slices that are left are written, all are
abbrev pub invariant-loop-slice : goal.invariant-loop-slice
invariant-loop-slice g l =
    let contents = g.W.Write.contents in
    (after : Option (List ℕ)) → Appends (contents l.out) after (text_of_uses l.cores l.slice (drop l.slice l.slices))
    → Appends (contents l.fn.out) after (text_of_uses l.cores 0 l.slices)
