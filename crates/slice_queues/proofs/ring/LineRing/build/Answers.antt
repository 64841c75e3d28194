use Rattle.std.proofs.Common.{◌≡◌, false, replicate, rules}
use Rattle.slice_queues.proofs.RingLaws.{IsRound-empty}
use Rattle.slice_queues.proofs.ring.LineRing.build.Goals as goal

pub invariant_of-result : goal.invariant_of-result
invariant_of-result c =
    let flags : c.in_ok-vec.field-0.items ≡ replicate c.args.lines false = search rules in
    rw (c.into_boxed_slice.ensures.items, c.in_ok-with_capacity.ensures, flags) (IsRound-empty c.args.lines)
