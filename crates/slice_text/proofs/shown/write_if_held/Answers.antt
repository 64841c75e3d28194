use Rattle.std.proofs.Common.{subst}
use Rattle.std.proofs.lemmas.Result.{on_ok_weaker}
use Rattle.std.proofs.Output.{writes_in_calls_append}
use Rattle.std.specs.Fmt.{WritesInCalls}
use Rattle.slice_text.proofs.Pieces.{shown_line}
use Rattle.slice_text.proofs.shown.write_if_held.Goals as goal

pub returns : goal.returns
returns g c =
    let took = g.W.Write.write_str_gives in
    let v = c.args.state.now.view in
    let shows = rw c.in-Some.is at c.line_view.ensures in
    let whole = shown_line v c.args.line _ c.in-Some.view c.is_at_rest.result shows c.is_at_rest.ensures
    c.if-is_at_rest.false in
    on_ok_weaker c.write_cores.result
    (λ rest. subst (λ text. WritesInCalls took c.args.out.now text c.write_cores.new.out) whole
    (writes_in_calls_append took _ _ _ _ _ c.in_ok-write_line.ensures rest))
    c.write_cores.ensures
