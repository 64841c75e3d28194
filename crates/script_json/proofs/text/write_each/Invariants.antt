use Rattle.std.proofs.Common.{List, ℕ, Option, map}
use Rattle.std.specs.Io.KnownBytes.{Appends}
use Rattle.litmus_text.specs.JsonList.{with_commas, with_commas_from}
use Rattle.script_json.specs.Text.{value_of}
use Rattle.script_json.proofs.text.write_each.Given as goal

-- once the items that are left are written, all are
abbrev pub invariant-loop-word : goal.invariant-loop-word
invariant-loop-word g l =
    let contents = g.W.Write.contents in
    (after : Option (List ℕ))
    → Appends (contents l.out) after (with_commas_from l.is_first (map value_of l.word-iterator))
    → Appends (contents l.fn.out) after (with_commas (map value_of l.fn.words))
