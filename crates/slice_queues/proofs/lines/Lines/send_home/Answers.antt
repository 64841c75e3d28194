use Rattle.std.proofs.Common.{Some, true, refl, arith, get_or}
use Rattle.slice_queues.specs.declared.channel.Channel.TheVariants as channels
use Rattle.slice_queues.specs.declared.message.Message.TheVariants as messages
use Rattle.slice_queues.specs.declared.lines.LineHead.{LineHead}
use Rattle.slice_queues.specs.Line.{LineChannels, empty_line}
use Rattle.slice_queues.proofs.CountLaws.{room-waiting, IsMailCounted-sent}
use Rattle.slice_queues.proofs.LineLaws.{sends_only}
use Rattle.slice_queues.proofs.RunsLaws.{lines-with_home}
use Rattle.slice_queues.proofs.lines.Lines.send_home.Goals as goal

pub note_sent-requires : goal.note_sent-requires
note_sent-requires c = λ none.
    let line = get_or c.args.self.now c.args.local.0 (empty_line 0) in
    let room = room-waiting c.self.inside.heads.items.items c.self.inside.cores.items _ _ c.args.local.0
    c.index_mut-head.result.now c.args.self.now channels.Home c.args.message c.self.view_is c.self.invariant.1
    c.requires.line c.index_mut-head.ensures.value
    (sends_only line channels.Home c.args.message tt c.requires.room c.requires.kind refl) none in
    omega (arith, room)

pub invariant_of-self : goal.invariant_of-self
invariant_of-self c =
    let heads = c.self.inside.heads.items.items in
    let cores = c.self.inside.cores.items in
    let line = get_or c.args.self.now c.args.local.0 (empty_line 0) in
    let sent : LineChannels = record line { home = Some c.in-Home.block } in
    let old = c.index_mut-head.result.now in
    let opened : LineHead = record old { home = Some c.in-Home.block } in
    let after = lines-with_home heads cores _ _ c.args.local.0 old (Some c.in-Home.block) true
    c.args.self.now c.self.view_is c.self.invariant.0 c.requires.line c.index_mut-head.ensures.value in
    rw c.note_sent.ensures.head (
      after.runs,
      IsMailCounted-sent heads cores _ _ _ c.args.local.0 old opened c.args.self.now _ sent channels.Home
          (messages.Home c.in-Home.block) c.self.view_is c.self.invariant.1 c.requires.line
          c.index_mut-head.ensures.value
          (sends_only line channels.Home (messages.Home c.in-Home.block) tt c.requires.room tt refl)
          after.channels refl c.note_sent.ensures.count,
    )

pub returns-clause-after : goal.returns-clause-after
returns-clause-after c =
    rw (c.note_sent.ensures.head, c.in-Home.is)
    (lines-with_home c.self.inside.heads.items.items c.self.inside.cores.items _ _ c.args.local.0 _
    (Some c.in-Home.block) true c.args.self.now c.self.view_is c.self.invariant.0 c.requires.line
    c.index_mut-head.ensures.value).channels
