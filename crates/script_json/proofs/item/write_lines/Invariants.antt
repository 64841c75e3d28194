use Rattle.std.proofs.Common.{List, ℕ, Option, map}
use Rattle.std.specs.Io.KnownBytes.{Appends}
use Rattle.litmus_text.specs.JsonList.{with_commas, with_commas_from}
use Rattle.script_json.specs.Value.{item_of_line}
use Rattle.script_json.proofs.item.write_lines.Given as goal

-- once the items that are left are written, all are
abbrev pub invariant-loop-line : goal.invariant-loop-line
invariant-loop-line g l =
    let contents = g.W.Write.contents in
    (after : Option (List ℕ))
    → Appends (contents l.out) after (with_commas_from l.is_first (map item_of_line l.line-iterator))
    → Appends (contents l.fn.out) after (with_commas (map item_of_line l.fn.shown))
