use Rattle.std.proofs.Common.{◌∙◌, arith, get_or, refl}
use Rattle.std.proofs.lemmas.List.{length-set}
use Rattle.core_thread_system.proofs.Made.{turn-makes-nothing}
use Rattle.drain.proofs.Received.{cores-then, one-core, same-cores}
use Rattle.drain.proofs.rounds.turn_each.Goals as goal

pub loop-place-init : goal.loop-place-init
loop-place-init g c = record { long = refl; received = same-cores g.M.SystemNames.setup c.args.cores.now }

pub loop-place-preserved : goal.loop-place-preserved
loop-place-preserved g c =
    let setup = g.M.SystemNames.setup in
    let cores = c.loop-place.cores in
    let place = c.loop-place.place in
    let none = c.index-cores-place.result in
    let new = c.turn-received.new.self in
    let so_far = c.loop-place.invariant in
    record {
      long = length-set cores place new ∙ so_far.long;
      received =
          cores-then setup c.args.cores.now cores _ so_far.received
          (one-core setup cores place none new (omega arith)
          (turn-makes-nothing setup (get_or cores place none) c.turn-received.result new c.requires
          c.turn-received.ensures));
    }
