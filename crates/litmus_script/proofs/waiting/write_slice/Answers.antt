use Rattle.std.proofs.Common.{List, subst}
use Rattle.std.specs.Fmt.{WritesInCalls}
use Rattle.litmus_script.specs.Waiting.{flights_of, lines_of}
use Rattle.litmus_script.proofs.WaitingLemmas.{next_line}
use Rattle.slice_queues.specs.declared.channel.Pick.{Pick}
use Rattle.litmus_script.proofs.waiting.write_slice.Goals as goal

pub loop-pick-preserved : goal.loop-pick-preserved
loop-pick-preserved g c = λ new rest.
    let took = g.W.Write.write_str_gives in
    let v = c.args.state.now.view in
    c.loop-pick.invariant new
    (next_line took v c.loop-pick.left c.in-Some.pick c.in-Some.ensures.first _ c.write_front.new.out new
    c.in_ok-write_front.ensures
    (subst (λ (left : List Pick). WritesInCalls took c.write_front.new.out (lines_of (flights_of v left)) new)
    c.in-Some.ensures.rest rest))
