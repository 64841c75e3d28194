use Rattle.std.proofs.Common.{◌*◌, drop}
use Rattle.std.specs.Fmt.{WritesInCalls}
use Rattle.std.specs.List.{flat_map, range_with_len}
use Rattle.litmus_text.specs.JsonList.{with_commas_from}
use Rattle.script_json.specs.Slices.{list_of_replies, reply_at}
use Rattle.script_json.proofs.slices.write_replies.Given as goal

-- once the replies at the places that are left are written, all are
abbrev pub invariant-loop-place : goal.invariant-loop-place
invariant-loop-place g l =
    let took = g.W.Write.write_str_gives in
    let v = l.state.view in
    (new : g.row.W.Denot)
    → WritesInCalls took l.out (with_commas_from l.is_first
    (flat_map (reply_at v) (drop l.place (range_with_len 0 (64 * l.cores))))) new
    → WritesInCalls took l.fn.out (list_of_replies v l.cores) new
