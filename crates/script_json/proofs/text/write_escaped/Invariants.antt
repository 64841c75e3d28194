use Rattle.std.proofs.Common.{List, ℕ, Option, drop}
use Rattle.std.specs.Io.KnownBytes.{Appends}
use Rattle.std.specs.List.{flat_map}
use Rattle.script_json.specs.Text.{escaped}
use Rattle.script_json.proofs.text.write_escaped.Given as goal

-- once the bytes that are left are written, all are
abbrev pub invariant-loop-byte : goal.invariant-loop-byte
invariant-loop-byte g l =
    let contents = g.W.Write.contents in
    (after : Option (List ℕ)) → Appends (contents l.out) after (flat_map escaped (drop l.byte-index l.text))
    → Appends (contents l.fn.out) after (flat_map escaped l.text)
