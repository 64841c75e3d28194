use Rattle.std.proofs.Common.{◌≡◌, ap}
use Rattle.slice_queues.specs.Waiting.{placed_by}
use Rattle.slice_queues.proofs.PickLaws.{all_lines, lines_waiting-once}
use Rattle.slice_queues.proofs.queues.Queues.picks_of.Goals as goal

pub returns-clause-order : goal.returns-clause-order
returns-clause-order c =
    let lines : c.self.inside.lines ≡ c.args.self.now.channels.lines = ap (λ v. v.channels.lines) c.self.view_is in
    rw (
      c.new-3.ensures,
      c.new.ensures,
      c.new-2.ensures,
      c.len.ensures,
      c.slice-slice.ensures.slice,
      c.slices-slices.ensures.slices,
      lines,
    )
    (all_lines c.args.own.slice c.args.own.slices c.args.self.now.channels.lines)

pub returns-clause-once : goal.returns-clause-once
returns-clause-once c =
    let lines = c.args.self.now.channels.lines in
    rw (returns-clause-order c) (lines_waiting-once (placed_by c.args.own lines) c.slice-slice.ensures.machine.slice)
