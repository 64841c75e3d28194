use Rattle.std.proofs.Common.{◌<◌, ap, arith, get_or, length}
use Rattle.slice_queues.specs.Line.{empty_line}
use Rattle.slice_queues.proofs.LineLaws.{read_default}
use Rattle.slice_queues.proofs.RingLaws.{IsQueues-take}
use Rattle.slice_queues.proofs.queues.Queues.take_at.Goals as goal

pub invariant_of-self : goal.invariant_of-self
invariant_of-self c =
    let lines = c.self.inside.lines in
    let local = c.args.local.0 in
    let there : local < length lines = omega (arith, ap (λ v. length v.channels.lines) c.self.view_is, c.requires) in
    rw c.take.ensures.after
    (IsQueues-take lines _ _ local (get_or lines local (empty_line 0)) _ c.args.channel there
    (read_default lines local (empty_line 0) _ there) c.take.ensures.rest c.self.invariant)
