use Rattle.std.proofs.Common.{None, refl, ◌&&◌, get_or}
use Rattle.slice_queues.specs.declared.channel.Channel.TheVariants as channels
use Rattle.slice_queues.specs.declared.lines.LineHead.{LineHead}
use Rattle.slice_queues.specs.Count.{shows_mail}
use Rattle.slice_queues.specs.Line.{LineChannels, empty_line}
use Rattle.slice_queues.proofs.CountLaws.{some-waiting, IsLine-read, IsMailCounted-taken}
use Rattle.slice_queues.proofs.LineLaws.{takes_only}
use Rattle.slice_queues.proofs.RunsLaws.{lines-with_home}
use Rattle.slice_queues.proofs.lines.Lines.drop_home.Goals as goal

pub note_taken-requires : goal.note_taken-requires
note_taken-requires c =
    some-waiting c.self.inside.heads.items.items c.self.inside.cores.items _ _ c.args.local.0
    c.index_mut-head.result.now c.args.self.now c.self.view_is c.self.invariant.1 c.requires.line
    c.index_mut-head.ensures.value

pub invariant_of-self : goal.invariant_of-self
invariant_of-self c =
    let heads = c.self.inside.heads.items.items in
    let cores = c.self.inside.cores.items in
    let line = get_or c.args.self.now c.args.local.0 (empty_line 0) in
    let taken : LineChannels = record line { home = None } in
    let old = c.index_mut-head.result.now in
    let opened : LineHead = record old { home = None } in
    let after = lines-with_home heads cores _ _ c.args.local.0 old None (opened.waits && shows_mail opened)
    c.args.self.now c.self.view_is c.self.invariant.0 c.requires.line c.index_mut-head.ensures.value in
    rw c.note_taken.ensures.head (
      after.runs,
      IsMailCounted-taken heads cores _ _ _ c.args.local.0 old opened c.args.self.now _ taken channels.Home
          c.self.view_is c.self.invariant.1 c.requires.line c.index_mut-head.ensures.value
          (takes_only line channels.Home tt) after.channels refl refl
          (IsLine-read heads cores _ _ c.args.local.0 old c.args.self.now c.self.view_is c.self.invariant.0
          c.requires.line c.index_mut-head.ensures.value)
          (rw c.note_taken.ensures.head at c.note_taken.ensures.count),
    )

pub returns : goal.returns
returns c =
    rw c.note_taken.ensures.head
    (lines-with_home c.self.inside.heads.items.items c.self.inside.cores.items _ _ c.args.local.0 _ None _
    c.args.self.now c.self.view_is c.self.invariant.0 c.requires.line c.index_mut-head.ensures.value).channels
