use Rattle.slice_json.specs.Message.{text_at}
use Rattle.slice_json.proofs.WriteLemmas.{first_text}
use Rattle.slice_json.proofs.message.write_fronts.Goals as goal

pub loop-channel-preserved : goal.loop-channel-preserved
loop-channel-preserved g c = λ new rest.
    c.loop-channel.invariant new
    (first_text g.W.Write.write_str_gives (text_at c.args.state.now.view c.args.line) c.loop-channel.is_first
    c.loop-channel.left _ c.in-Some.channel c.in-Some.ensures.first c.in-Some.ensures.rest _ _ _ new
    c.in_ok-write_comma.ensures c.in_ok-write_front.ensures rest)
