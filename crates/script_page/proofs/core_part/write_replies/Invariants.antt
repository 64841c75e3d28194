use Rattle.std.proofs.Common.{drop}
use Rattle.std.specs.Fmt.{WritesInCalls}
use Rattle.std.specs.List.{range_with_len}
use Rattle.script_page.specs.Core.{list_of_replies, replies_of}
use Rattle.litmus_text.specs.JsonList.{with_commas_from}
use Rattle.script_page.proofs.core_part.write_replies.Given as goal

-- once the replies of the tags that are left are written, all are
abbrev pub invariant-loop-tag : goal.invariant-loop-tag
invariant-loop-tag g l =
    let took = g.W.Write.write_str_gives in
    (new : g.row.W.Denot)
    → WritesInCalls took l.out (with_commas_from l.is_first (replies_of l.state.view l.core
    (drop l.tag (range_with_len 0 64)))) new
    → WritesInCalls took l.fn.out (list_of_replies l.state.view l.core) new
