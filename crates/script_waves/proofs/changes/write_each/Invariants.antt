use Rattle.std.proofs.Common.{List, ℕ, Option}
use Rattle.std.specs.Io.KnownBytes.{Appends}
use Rattle.script_waves.specs.Changes.{changes}
use Rattle.script_waves.proofs.changes.write_each.Given as goal

-- once the changes that are left are written, all are
abbrev pub invariant-loop-value : goal.invariant-loop-value
invariant-loop-value g l =
    let contents = g.W.Write.contents in
    (after : Option (List ℕ))
    → Appends (contents l.out) after (changes l.told l.value-iterator)
    → Appends (contents l.fn.out) after (changes l.fn.before l.fn.values)
