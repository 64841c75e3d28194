use Rattle.slice_queues.specs.declared.channel.Class.TheVariants as classes
use Rattle.litmus_script.proofs.CallLemmas.{delivered_next}
use Rattle.litmus_script.proofs.calls.deliver_next.Goals as goal

pub returns-clause-made : goal.returns-clause-made
returns-clause-made c =
    delivered_next c.args.state.now c.deliver_next.new.self classes.Any c.deliver_next.result
    c.deliver_next.ensures.step
