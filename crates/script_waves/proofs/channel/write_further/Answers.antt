use Rattle.std.proofs.Common.{List, subst}
use Rattle.std.specs.Fmt.{WritesInCalls}
use Rattle.std.specs.List.{flat_map}
use Rattle.slice_queues.specs.declared.channel.Channel.{Channel}
use Rattle.script_waves.specs.Values.{text_behind}
use Rattle.script_waves.proofs.WavesLemmas.{next_channel}
use Rattle.script_waves.proofs.channel.write_further.Goals as goal

pub loop-channel-preserved : goal.loop-channel-preserved
loop-channel-preserved g c = λ new rest.
    let took = g.W.Write.write_str_gives in
    c.loop-channel.invariant new
    (next_channel took c.loop-channel.left c.in-Some.channel c.in-Some.ensures.first _ c.write_behind.new.out new
    c.in_ok-write_behind.ensures
    (subst (λ (left : List Channel). WritesInCalls took c.write_behind.new.out (flat_map text_behind left) new)
    c.in-Some.ensures.rest rest))
