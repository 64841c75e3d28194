use Rattle.std.proofs.Common.{subst}
use Rattle.std.proofs.Output.{writes_in_calls_append}
use Rattle.std.proofs.lemmas.Result.{on_ok_weaker}
use Rattle.std.specs.Fmt.{WritesInCalls}
use Rattle.address_map.specs.Locator.{local_at}
use Rattle.slice_json.proofs.LineLemmas.{shown_line}
use Rattle.slice_json.proofs.line.write_line.Goals as goal

pub returns : goal.returns
returns g c =
    let took = g.W.Write.write_str_gives in
    let then = writes_in_calls_append took in
    let v = c.args.state.now.view in
    let shows = rw c.in-Some.is at c.line_view.ensures in
    on_ok_weaker c.write_mail.result
    (λ last. subst (λ text. WritesInCalls took c.args.out.now text c.write_mail.new.out)
    (shown_line v c.args.line (local_at v.lines c.args.line.0) c.in-Some.view shows)
    (then _ _ _ _ _ c.in_ok-write_entry.ensures
    (then _ _ _ _ _ (rw c.from_bits.ensures at c.in_ok-write_set.ensures)
    (then _ _ _ _ _ c.in_ok-write_values.ensures last))))
    c.write_mail.ensures
