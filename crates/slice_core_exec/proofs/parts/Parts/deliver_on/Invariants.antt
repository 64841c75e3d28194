use Rattle.std.proofs.Common.{◌≡◌, length}
use Rattle.slice_core_spec.specs.Ring.{waiting_in}
use Rattle.slice_core_spec.specs.View.{channels_at}
use Rattle.slice_core_exec.proofs.NextLaws.{IsNextOf}
use Rattle.slice_core_exec.proofs.TurnLaws.{IsFirstSoFar}
use Rattle.slice_core_exec.proofs.parts.Parts.deliver_on.Given as goal
use Rattle.slice_queues.specs.Waiting.{AreCores, channels_left}

abbrev pub invariant-loop-channel : goal.invariant-loop-channel
invariant-loop-channel g l =
    let v = l.fn.self.view in
    let cores = (channels_at v l.local).cores in
    (l.self ≡ l.fn.self)
    × IsNextOf v l.local l.fn.class l.next (channels_left l.left cores)
    × IsFirstSoFar v l.local (waiting_in v l.fn.class l.local) l.next (channels_left l.left cores)
    × AreCores cores l.left.acks.receivers

abbrev pub decreases-loop-channel : goal.decreases-loop-channel
decreases-loop-channel g l = length (channels_left l.left (channels_at l.fn.self.view l.local).cores)
