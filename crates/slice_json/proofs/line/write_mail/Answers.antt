use Rattle.std.proofs.Common.{subst}
use Rattle.std.proofs.Output.{writes_in_calls_append}
use Rattle.std.proofs.lemmas.Result.{on_ok_weaker}
use Rattle.std.specs.Fmt.{WritesInCalls}
use Rattle.address_map.specs.Locator.{local_at}
use Rattle.slice_json.proofs.LineLemmas.{mail_text}
use Rattle.slice_json.proofs.line.write_mail.Goals as goal

pub returns : goal.returns
returns g c =
    let took = g.W.Write.write_str_gives in
    let then = writes_in_calls_append took in
    let v = c.args.state.now.view in
    on_ok_weaker c.write-3.result
    (λ last. subst (λ text. WritesInCalls took c.args.out.now text c.write-3.new.self)
    (mail_text v c.args.line (local_at v.lines c.args.line.0) c.in-Some.waiting
    (rw c.in-Some.is at c.waiting_at.ensures.waiting))
    (then _ _ _ _ _ c.in_ok-write.ensures.writes (then _ _ _ _ _ c.in_ok-write_messages.ensures last)))
    c.write-3.ensures.writes
