use Rattle.std.proofs.Common.{◌≡◌, ◌<◌, ◌∙◌, ap, length, rules}
use Rattle.std.proofs.Math.ListN.{set}
use Rattle.slice_core_spec.proofs.RoomLaws.{cache_room-after_forwarded}
use Rattle.slice_core_spec.specs.Sends.{cache_sent}
use Rattle.slice_core_spec.specs.View.{channels_at, cache_at}
use Rattle.slice_core_exec.proofs.StandsLaws.{read_cache}
use Rattle.slice_core_exec.proofs.parts.Parts.forward.Goals as goal
use Rattle.slice_queues.proofs.LentLaws.{lent_again, read-lent}
use Rattle.slice_queues.specs.Line.{LineChannels, after_take}
use Rattle.slice_queues.specs.Ring.{with_listed}
use Rattle.slice_queues.specs.Slice.{at_local}
use Rattle.slice_queues.specs.declared.channel.Channel.TheVariants as channels

pub send_from_core-requires-clause-room : goal.send_from_core-requires-clause-room
send_from_core-requires-clause-room g c =
    let local = c.args.local in
    let there : local.0 < length c.self.inside.queues.channels.lines = search rules in
    let line : at_local c.self.inside.queues.channels local.0 ≡ channels_at c.args.self.now.view local =
    ap (λ p. channels_at p.view local) c.self.view_is in
    rw (read-lent c.self.inside.queues c.drop_at.new.self local _ there c.drop_at.ensures, line)
    (cache_room-after_forwarded
    (channels_at c.args.self.now.view c.args.local) c.args.core c.args.step.requester c.args.step.sends c.requires.room)

pub returns : goal.returns
returns g c =
    let v = c.args.self.now.view in
    let local = c.args.local in
    let core = c.args.core in
    let there : local.0 < length c.self.inside.queues.channels.lines = search rules in
    let sent : LineChannels → LineChannels = λ line.
    cache_sent (after_take line (channels.Fwd core)) core c.args.step.requester c.block.result.now c.args.step.sends in
    let queues = c.send_from_core.ensures
    ∙ lent_again c.self.inside.queues c.drop_at.new.self local _
    (λ line. cache_sent line core c.args.step.requester c.block.result.now c.args.step.sends) there c.drop_at.ensures in
    let lines : c.send_from_core.new.queues.channels.lines ≡ set v.channels local.0 (sent (channels_at v local)) =
    ap (λ k. k.channels.lines) queues
    ∙ ap (λ p. set p.view.channels local.0 (sent (channels_at p.view local))) c.self.view_is in
    let ring : c.send_from_core.new.queues.ring ≡ with_listed c.args.self.now.ring local.0 =
    ap (λ k. k.ring) queues ∙ ap (λ p. with_listed p.ring local.0) c.self.view_is in
    let cache : c.index_mut-cache.result.now ≡ cache_at v core =
    read_cache _ _ _ _ c.index_mut-cache.ensures.value (ap (λ p. p.view.caches) c.self.view_is) c.requires.core in
    search rules
