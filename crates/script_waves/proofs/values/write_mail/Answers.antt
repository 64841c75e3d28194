use Rattle.std.proofs.Common.{subst}
use Rattle.std.proofs.lemmas.Result.{on_ok_weaker}
use Rattle.std.specs.Fmt.{WritesInCalls}
use Rattle.address_map.specs.Locator.{local_at}
use Rattle.script_waves.proofs.WavesLemmas.{mail_text}
use Rattle.script_waves.proofs.values.write_mail.Goals as goal

pub returns-in-Some : goal.returns-in-Some
returns-in-Some g c =
    let v = c.args.state.now.view in
    on_ok_weaker c.write_channels.result
    (λ wrote. subst (λ text. WritesInCalls g.W.Write.write_str_gives c.args.out.now text c.write_channels.new.out)
    (mail_text v c.args.line (local_at v.lines c.args.line.0) c.in-Some.waiting _ c.total_at-total.ensures
    (rw c.in-Some.is at c.waiting_at.ensures.waiting)) wrote)
    c.write_channels.ensures
