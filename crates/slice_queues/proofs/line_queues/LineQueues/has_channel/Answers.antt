use Rattle.std.proofs.Common.{◌≡◌, ◌≤◌, ap, arith, false, length, subst}
use Rattle.std.proofs.lemmas.Bool.{ltb-false}
use Rattle.address_map.specs.CoreSet.{has}
use Rattle.slice_queues.specs.Line.{LineChannels, core_at}
use Rattle.slice_queues.proofs.LineLaws.{has-past_end, after_take-no_ack, no_ack-past_end}
use Rattle.slice_queues.proofs.line_queues.LineQueues.has_channel.Goals as goal

pub returns-then-to-cores-clause-unchanged : goal.returns-then-to-cores-clause-unchanged
returns-then-to-cores-clause-unchanged c = λ absent.
    let past : length c.self.inside.cores.now ≤ c.in-Ack.from.0 =
    omega (arith, ltb-false c.in-Ack.from.0 (length c.self.inside.cores.now) absent) in
    let P : LineChannels → Type 0 = λ line. has (core_at line c.in-Ack.to.0).acks c.in-Ack.from.0 ≡ false in
    let none : has (core_at c.args.self.now c.in-Ack.to.0).acks c.in-Ack.from.0 ≡ false =
    subst P c.self.view_is (has-past_end _ c.in-Ack.to.0 c.in-Ack.from.0 c.self.invariant.within past) in
    rw c.in-Ack.is (after_take-no_ack c.args.self.now c.in-Ack.to c.in-Ack.from none)

pub returns-else-to-cores-clause-absent : goal.returns-else-to-cores-clause-absent
returns-else-to-cores-clause-absent c = λ absent.
    let past : length c.args.self.now.cores ≤ c.in-Ack.to.0 =
    omega (
      arith,
      ap (λ l. length l.cores) c.self.view_is,
      ltb-false c.in-Ack.to.0 (length c.self.inside.cores.now) absent,
    ) in
    rw c.in-Ack.is (no_ack-past_end c.args.self.now c.in-Ack.to c.in-Ack.from past)
