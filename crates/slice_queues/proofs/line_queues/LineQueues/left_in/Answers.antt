use Rattle.std.proofs.Common.{rules, ◌≡◌, ◌&&◌, ◌∙◌, subst, filter, is_some, arith}
use Rattle.slice_queues.specs.declared.channel.Channel.TheVariants as channels
use Rattle.slice_queues.specs.Class.{is_of_class}
use Rattle.slice_queues.specs.Line.{LineChannels}
use Rattle.slice_queues.specs.Waiting.{HasEachOnceIn, channels_left, line_waiting}
use Rattle.slice_queues.proofs.OnceLaws.{line_waiting-once}
use Rattle.slice_queues.proofs.WaitingLaws.{AllByRecursion-members, marks_of-below, marked_waiting-of_class}
use Rattle.slice_queues.proofs.WaitingLaws.{HasEachOnceIn-from_all}
use Rattle.slice_queues.proofs.line_queues.LineQueues.left_in.Goals as goal

pub new-requires : goal.new-requires
new-requires c =
    rw
    c.of_class.ensures
    (AllByRecursion-members _ _ (marks_of-below c.args.class _ _ c.self.invariant.marked))

pub returns-clause-order : goal.returns-clause-order
returns-clause-order c =
    let P : LineChannels → Type 0 =
    λ line. channels_left c.new.result line.cores ≡ filter (is_of_class c.args.class) (line_waiting line) in
    let home : c.waits_at_home-home.result
    ≡ (is_of_class c.args.class channels.Home && is_some c.self.inside.head.now.home) =
    search rules in
    subst
    P
    c.self.view_is
    (c.new.ensures.order
    ∙ rw
    c.of_class.ensures
    (marked_waiting-of_class
    c.args.class (record { cores = c.self.inside.cores.now; home = c.self.inside.head.now.home })
    c.self.inside.head.now.mail _
    c.self.invariant.within.at_most_64 c.self.invariant.marked home))

pub returns-clause-once : goal.returns-clause-once
returns-clause-once c =
    let order : channels_left c.new.result c.args.self.now.cores
    ≡ filter (is_of_class c.args.class) (line_waiting c.args.self.now) =
    returns-clause-order c in
    let P : LineChannels → Type 0 =
    λ line. HasEachOnceIn c.args.class line (filter (is_of_class c.args.class) (line_waiting line)) in
    let once : HasEachOnceIn c.args.class c.args.self.now
    (filter (is_of_class c.args.class) (line_waiting c.args.self.now)) =
    subst
    P
    c.self.view_is
    (HasEachOnceIn-from_all
    c.args.class
    _
    _
    (line_waiting-once
    _
    (λ to from there. omega (
      arith,
      c.self.invariant.within.senders_are_cores to from there,
      c.self.invariant.within.at_most_64,
    )))) in
    rw order once
