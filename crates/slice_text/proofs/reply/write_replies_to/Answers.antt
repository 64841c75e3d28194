use Rattle.std.proofs.Common.{arith}
use Rattle.litmus_text.proofs.Numbers.{next_number, last_number}
use Rattle.slice_text.specs.Shown.{text_under}
use Rattle.slice_text.proofs.reply.write_replies_to.Goals as goal

pub loop-tag-preserved : goal.loop-tag-preserved
loop-tag-preserved g c = λ new rest.
    c.loop-tag.invariant new
    (next_number g.W.Write.write_str_gives (text_under c.args.state.now.view c.args.core) 64 c.loop-tag.tag
    c.loop-tag-test.true _ _ new
    c.in_ok-write_reply_under.ensures rest)

pub returns : goal.returns
returns g c =
    let end = c.loop-tag-test.false in
    c.loop-tag.invariant _ (last_number g.W.Write.write_str_gives (text_under c.args.state.now.view c.args.core) 64
    c.loop-tag.tag (omega (arith, end)) _)
