use Rattle.drain.proofs.Received.{cores-then, same-cores}
use Rattle.drain.proofs.rounds.drain.Goals as goal

pub loop-round-init : goal.loop-round-init
loop-round-init g c = same-cores g.M.SystemNames.setup c.args.cores.now

pub loop-round-preserved : goal.loop-round-preserved
loop-round-preserved g c =
    cores-then g.M.SystemNames.setup c.args.cores.now c.loop-round.cores
    c.turn_each.new.cores c.loop-round.invariant
    c.turn_each.ensures
