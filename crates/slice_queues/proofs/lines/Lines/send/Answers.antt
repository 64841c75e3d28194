use Rattle.std.proofs.Common.{◌≡◌, ◌∙◌, ap, arith, get_or, refl, subst, sym}
use Rattle.std.proofs.Math.ListN.{set}
use Rattle.slice_queues.specs.declared.channel.Channel.{Channel}
use Rattle.slice_queues.specs.declared.lines.LineHead.{LineHead}
use Rattle.slice_queues.specs.Line.{LineChannels, core_at, empty_line, after_send, with_core, HasChannel, IsOfCore}
use Rattle.slice_queues.specs.Line.{SendsOnly}
use Rattle.slice_queues.proofs.CountLaws.{room-waiting, IsMailCounted-sent}
use Rattle.slice_queues.proofs.LineLaws.{core-there, few-forwarded, of-core, sends_only}
use Rattle.slice_queues.proofs.RunsLaws.{from-core, read-core, lines-with_core, opens}
use Rattle.slice_queues.proofs.lines.Lines.send.Goals as goal

pub place_of-place-requires-clause-room : goal.place_of-place-requires-clause-room
place_of-place-requires-clause-room c =
    let heads = c.self.inside.heads.items.items in
    (opens heads c.self.inside.cores.items _ _ c.args.local.0 _ c.args.self.now c.self.view_is c.self.invariant.0
    c.requires.line c.index_mut-head.ensures.value).1

pub send_to-requires-clause-room : goal.send_to-requires-clause-room
send_to-requires-clause-room c = λ other is.
    let line = get_or c.args.self.now c.args.local.0 (empty_line 0) in
    let of : IsOfCore c.args.channel c.in-Req.core = of-core c.args.channel c.in-Req.core c.in-Req.is in
    let within = core-there line c.args.channel c.in-Req.core of c.requires.there in
    let here : core_at line c.in-Req.core.0 ≡ c.index_mut-queues.result.now =
    read-core c.self.inside.heads.items.items c.self.inside.cores.items c.place_of-place.new.cores.items _ _
    c.args.local.0 c.in-Req.core.0 _ _ _ c.args.self.now c.self.view_is c.self.invariant.0 c.requires.line within
    c.index_mut-head.ensures.value c.place_of-place.ensures.place c.place_of-place.ensures.cores
    c.place_of-place.ensures.there c.index_mut-queues.ensures.value in
    few-forwarded line c.args.channel c.in-Req.core other _ of here c.requires.room (sym c.in-Req.channel-is ∙ is)

pub note_sent-requires : goal.note_sent-requires
note_sent-requires c = λ none.
    let line = get_or c.args.self.now c.args.local.0 (empty_line 0) in
    let room = room-waiting c.self.inside.heads.items.items c.self.inside.cores.items _ _ c.args.local.0
    c.index_mut-head.result.now c.args.self.now c.args.channel c.args.message c.self.view_is c.self.invariant.1
    c.requires.line c.index_mut-head.ensures.value
    (sends_only line c.args.channel c.args.message c.requires.there c.requires.room c.requires.kind
    (from-core c.self.inside.heads.items.items c.self.inside.cores.items _ _ c.args.local.0 c.args.channel
    c.args.self.now c.self.view_is c.self.invariant.0 c.requires.there))
    (sym (ap (λ h. h.waits) c.place_of-place.ensures.head) ∙ none) in
    omega (arith, room)

pub invariant_of-self : goal.invariant_of-self
invariant_of-self c =
    let line = get_or c.args.self.now c.args.local.0 (empty_line 0) in
    let of : IsOfCore c.args.channel c.in-Req.core = of-core c.args.channel c.in-Req.core c.in-Req.is in
    let within = core-there line c.args.channel c.in-Req.core of c.requires.there in
    let here : core_at line c.in-Req.core.0 ≡ c.index_mut-queues.result.now =
    read-core c.self.inside.heads.items.items c.self.inside.cores.items c.place_of-place.new.cores.items _ _
    c.args.local.0 c.in-Req.core.0 _ _ _ c.args.self.now c.self.view_is c.self.invariant.0 c.requires.line within
    c.index_mut-head.ensures.value c.place_of-place.ensures.place c.place_of-place.ensures.cores
    c.place_of-place.ensures.there c.index_mut-queues.ensures.value in
    let there : HasChannel line c.in-Req.channel =
    subst (λ (way : Channel). HasChannel line way) (sym c.in-Req.channel-is) c.requires.there in
    let heads = c.self.inside.heads.items.items in
    let cores = c.self.inside.cores.items in
    let old = c.index_mut-head.result.now in
    let opened : LineHead = record c.place_of-place.new.self { mail = c.send_to.new.mail } in
    let is = sym (c.send_to.ensures.line line here) ∙ ap (λ (way : Channel). after_send line way c.args.message)
    c.in-Req.channel-is in
    let after = lines-with_core heads cores c.place_of-place.new.cores.items _ _ _
    c.args.local.0 c.in-Req.core.0 _ _ c.place_of-place.new.self _ c.send_to.new.queues c.args.self.now c.self.view_is
    c.self.invariant.0 c.requires.line within c.index_mut-head.ensures.value c.place_of-place.ensures.place
    c.place_of-place.ensures.cores c.place_of-place.ensures.head c.place_of-place.ensures.capacity refl refl
    (c.send_to.ensures.marked line there here) in
    rw c.note_sent.ensures.head (
      after.runs,
      IsMailCounted-sent heads cores _ _ _ c.args.local.0 old opened c.args.self.now _
          (with_core line c.in-Req.core.0 c.send_to.new.queues) c.args.channel c.args.message
          c.self.view_is c.self.invariant.1 c.requires.line c.index_mut-head.ensures.value
          (subst (λ (l : LineChannels). SendsOnly line l c.args.channel c.args.message) (sym is)
          (sends_only line c.args.channel c.args.message c.requires.there c.requires.room c.requires.kind
          (from-core heads cores _ _ c.args.local.0 c.args.channel
          c.args.self.now c.self.view_is c.self.invariant.0 c.requires.there)))
          after.channels
          (ap (λ h. h.waits) c.place_of-place.ensures.head)
          c.note_sent.ensures.count,
    )

pub returns-in-Req-clause-after : goal.returns-in-Req-clause-after
returns-in-Req-clause-after c =
    let line = get_or c.args.self.now c.args.local.0 (empty_line 0) in
    let of : IsOfCore c.args.channel c.in-Req.core = of-core c.args.channel c.in-Req.core c.in-Req.is in
    let within = core-there line c.args.channel c.in-Req.core of c.requires.there in
    let here : core_at line c.in-Req.core.0 ≡ c.index_mut-queues.result.now =
    read-core c.self.inside.heads.items.items c.self.inside.cores.items c.place_of-place.new.cores.items _ _
    c.args.local.0 c.in-Req.core.0 _ _ _ c.args.self.now c.self.view_is c.self.invariant.0 c.requires.line within
    c.index_mut-head.ensures.value c.place_of-place.ensures.place c.place_of-place.ensures.cores
    c.place_of-place.ensures.there c.index_mut-queues.ensures.value in
    let there : HasChannel line c.in-Req.channel =
    subst (λ (way : Channel). HasChannel line way) (sym c.in-Req.channel-is) c.requires.there in
    rw c.note_sent.ensures.head
    ((lines-with_core c.self.inside.heads.items.items c.self.inside.cores.items c.place_of-place.new.cores.items _ _ _
    c.args.local.0 c.in-Req.core.0 _ _ c.place_of-place.new.self _ c.send_to.new.queues c.args.self.now c.self.view_is
    c.self.invariant.0 c.requires.line within c.index_mut-head.ensures.value c.place_of-place.ensures.place
    c.place_of-place.ensures.cores c.place_of-place.ensures.head c.place_of-place.ensures.capacity refl refl
    (c.send_to.ensures.marked line there here)).channels
    ∙ ap (set c.args.self.now c.args.local.0)
    (sym (c.send_to.ensures.line line here) ∙ ap (λ (way : Channel). after_send line way c.args.message)
    c.in-Req.channel-is))

pub returns-in-Req-clause-sent : goal.returns-in-Req-clause-sent
returns-in-Req-clause-sent c =
    let line = get_or c.args.self.now c.args.local.0 (empty_line 0) in
    sends_only line c.args.channel c.args.message c.requires.there c.requires.room c.requires.kind
    (from-core c.self.inside.heads.items.items c.self.inside.cores.items _ _ c.args.local.0 c.args.channel
    c.args.self.now c.self.view_is c.self.invariant.0 c.requires.there)
