use Rattle.slice_queues.proofs.RingLaws.{IsQueues-lent}
use Rattle.slice_queues.proofs.queues.Queues.drop_at.Goals as goal

pub invariant_of-self : goal.invariant_of-self
invariant_of-self c =
    rw c.drop_front.ensures
    (IsQueues-lent c.self.inside.lines c.self.inside.ring c.list.new.self c.self.inside.locator c.args.local.0 _
    c.list.ensures c.self.invariant)
