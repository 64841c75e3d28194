use Rattle.std.proofs.Common.{arith}
use Rattle.litmus_text.proofs.Numbers.{next_number, last_number}
use Rattle.slice_text.specs.Shown.{text_of_replies_to}
use Rattle.slice_text.proofs.reply.write_replies.Goals as goal

pub loop-core-preserved : goal.loop-core-preserved
loop-core-preserved g c = λ new rest.
    c.loop-core.invariant new
    (next_number g.W.Write.write_str_gives (λ core. text_of_replies_to c.args.state.now.view (record { 0 = core }))
    c.args.cores c.loop-core.core c.loop-core-test.true _ _ new
    c.in_ok-write_replies_to.ensures rest)

pub returns : goal.returns
returns g c =
    let end = c.loop-core-test.false in
    c.loop-core.invariant _ (last_number g.W.Write.write_str_gives
    (λ core. text_of_replies_to c.args.state.now.view (record { 0 = core })) c.args.cores
    c.loop-core.core (omega (arith, end)) _)
