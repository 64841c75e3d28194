use Rattle.std.proofs.Common.{◌≡◌, ◌∙◌, ap, get_or, refl, subst, sym}
use Rattle.std.proofs.Math.ListN.{set}
use Rattle.slice_queues.specs.declared.channel.Channel.{Channel}
use Rattle.slice_queues.specs.Line.{LineChannels, core_at, empty_line, after_take, with_core, HasChannel}
use Rattle.slice_queues.specs.Line.{IsOfCore, TakesOnly}
use Rattle.slice_queues.specs.declared.lines.LineHead.{LineHead}
use Rattle.slice_queues.specs.declared.mail.Mail.{Mail}
use Rattle.slice_queues.specs.Mail.{IsLine}
use Rattle.slice_queues.proofs.CountLaws.{some-waiting, IsLine-read, IsMailCounted-taken}
use Rattle.slice_queues.proofs.LineLaws.{core-there, of-core, takes_only}
use Rattle.slice_queues.proofs.RunsLaws.{read-core, line-seen, lines-with_core, opens}
use Rattle.slice_queues.proofs.lines.Lines.drop_front.Goals as goal

pub place_of-place-requires-clause-room : goal.place_of-place-requires-clause-room
place_of-place-requires-clause-room c =
    let heads = c.self.inside.heads.items.items in
    (opens heads c.self.inside.cores.items _ _ c.args.local.0 _ c.args.self.now c.self.view_is c.self.invariant.0
    c.requires.line c.index_mut-head.ensures.value).1

pub note_taken-requires : goal.note_taken-requires
note_taken-requires c = λ waits.
    some-waiting c.self.inside.heads.items.items c.self.inside.cores.items _ _ c.args.local.0
    c.index_mut-head.result.now c.args.self.now c.self.view_is c.self.invariant.1 c.requires.line
    c.index_mut-head.ensures.value (sym (ap (λ h. h.waits) c.place_of-place.ensures.head) ∙ waits)

pub invariant_of-self : goal.invariant_of-self
invariant_of-self c =
    let line = get_or c.args.self.now c.args.local.0 (empty_line 0) in
    let of : IsOfCore c.args.channel c.in-Req.core = of-core c.args.channel c.in-Req.core c.in-Req.is in
    let within = core-there line c.args.channel c.in-Req.core of c.requires.there in
    let here : core_at line c.in-Req.core.0 ≡ c.index_mut-queues.result.now =
    read-core c.self.inside.heads.items.items c.self.inside.cores.items c.place_of-place.new.cores.items _ _
    c.args.local.0 c.in-Req.core.0 _ _ _ c.args.self.now c.self.view_is c.self.invariant.0 c.requires.line within
    c.index_mut-head.ensures.value c.place_of-place.ensures.place c.place_of-place.ensures.cores
    c.place_of-place.ensures.there c.index_mut-queues.ensures.value in
    let there : HasChannel line c.in-Req.channel =
    subst (λ (way : Channel). HasChannel line way) (sym c.in-Req.channel-is) c.requires.there in
    let heads = c.self.inside.heads.items.items in
    let cores = c.self.inside.cores.items in
    let old = c.index_mut-head.result.now in
    let opened : LineHead = record c.place_of-place.new.self { mail = c.drop_from.new.mail } in
    let marked = c.drop_from.ensures.marked line there here in
    let is = sym (c.drop_from.ensures.line line here) in
    let after = lines-with_core heads cores c.place_of-place.new.cores.items _ _ _
    c.args.local.0 c.in-Req.core.0 _ _ c.place_of-place.new.self _ c.drop_from.new.queues c.args.self.now c.self.view_is
    c.self.invariant.0 c.requires.line within c.index_mut-head.ensures.value c.place_of-place.ensures.place
    c.place_of-place.ensures.cores c.place_of-place.ensures.head c.place_of-place.ensures.capacity refl refl
    marked in
    let before : IsLine line.cores c.place_of-place.new.self.mail =
    subst (λ (mail : Mail). IsLine line.cores mail) (sym (ap (λ h. h.mail) c.place_of-place.ensures.head))
    (IsLine-read heads cores _ _ c.args.local.0 old c.args.self.now c.self.view_is c.self.invariant.0 c.requires.line
    c.index_mut-head.ensures.value) in
    rw c.note_taken.ensures.head (
      after.runs,
      IsMailCounted-taken heads cores _ _ _ c.args.local.0 old opened c.args.self.now _
          (with_core line c.in-Req.core.0 c.drop_from.new.queues) c.in-Req.channel
          c.self.view_is c.self.invariant.1 c.requires.line c.index_mut-head.ensures.value
          (subst (λ (l : LineChannels). TakesOnly line l c.in-Req.channel) (sym is)
          (takes_only line c.in-Req.channel there))
          after.channels
          (ap (λ h. h.waits) c.place_of-place.ensures.head)
          (ap (λ h. h.home) c.place_of-place.ensures.head
          ∙ sym (ap (λ l. l.home) (line-seen heads cores _ c.args.local.0 old c.args.self.now c.self.view_is
          c.requires.line c.index_mut-head.ensures.value)))
          (marked before)
          (rw c.note_taken.ensures.head at c.note_taken.ensures.count),
    )

pub returns-in-Req : goal.returns-in-Req
returns-in-Req c =
    let line = get_or c.args.self.now c.args.local.0 (empty_line 0) in
    let of : IsOfCore c.args.channel c.in-Req.core = of-core c.args.channel c.in-Req.core c.in-Req.is in
    let within = core-there line c.args.channel c.in-Req.core of c.requires.there in
    let here : core_at line c.in-Req.core.0 ≡ c.index_mut-queues.result.now =
    read-core c.self.inside.heads.items.items c.self.inside.cores.items c.place_of-place.new.cores.items _ _
    c.args.local.0 c.in-Req.core.0 _ _ _ c.args.self.now c.self.view_is c.self.invariant.0 c.requires.line within
    c.index_mut-head.ensures.value c.place_of-place.ensures.place c.place_of-place.ensures.cores
    c.place_of-place.ensures.there c.index_mut-queues.ensures.value in
    let there : HasChannel line c.in-Req.channel =
    subst (λ (way : Channel). HasChannel line way) (sym c.in-Req.channel-is) c.requires.there in
    rw c.note_taken.ensures.head
    ((lines-with_core c.self.inside.heads.items.items c.self.inside.cores.items c.place_of-place.new.cores.items _ _ _
    c.args.local.0 c.in-Req.core.0 _ _ c.place_of-place.new.self _ c.drop_from.new.queues c.args.self.now c.self.view_is
    c.self.invariant.0 c.requires.line within c.index_mut-head.ensures.value c.place_of-place.ensures.place
    c.place_of-place.ensures.cores c.place_of-place.ensures.head c.place_of-place.ensures.capacity refl refl
    (c.drop_from.ensures.marked line there here)).channels
    ∙ ap (set c.args.self.now c.args.local.0)
    (sym (c.drop_from.ensures.line line here) ∙ ap (λ (way : Channel). after_take line way) c.in-Req.channel-is))
