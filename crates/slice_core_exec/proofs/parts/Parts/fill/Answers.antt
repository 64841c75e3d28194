use Rattle.std.proofs.Common.{◌≡◌, ◌<◌, ◌∙◌, ap, subst, refl, rules, length, Option, Some}
use Rattle.std.proofs.Math.ListN.{set}
use Rattle.slice_core_cache.specs.CoreCache.{CoreCacheView, array_copy}
use Rattle.slice_core_cache.specs.Steps.{after_change, after_settle}
use Rattle.slice_core_spec.specs.Calls.{filled_by}
use Rattle.slice_core_spec.specs.Steps.{asked_by}
use Rattle.slice_core_spec.specs.View.{channels_at, cache_at}
use Rattle.slice_core_exec.proofs.AskedLaws.{has_no_request, may_ask}
use Rattle.slice_core_exec.proofs.ChangedLaws.{changed_stands}
use Rattle.slice_core_exec.proofs.SettledLaws.{settles}
use Rattle.slice_core_exec.proofs.StandsLaws.{read_cache}
use Rattle.slice_core_exec.proofs.parts.Parts.fill.Goals as goal
use Rattle.slice_queues.proofs.LentLaws.{lent_again}
use Rattle.slice_queues.specs.Line.{LineChannels, after_take, core_at}
use Rattle.slice_queues.specs.Ring.{with_listed}
use Rattle.slice_queues.specs.declared.channel.Channel.TheVariants as channels
use Rattle.slice_queues.specs.declared.message.DataMessage.{DataMessage}

pub settle_copy-asks-requires-clause-held : goal.settle_copy-asks-requires-clause-held
settle_copy-asks-requires-clause-held g c =
    let cache : c.index_mut-cache.result.now ≡ cache_at c.args.self.now.view c.args.core =
    read_cache _ _ _ _ c.index_mut-cache.ensures.value (ap (λ p. p.view.caches) c.self.view_is) c.requires.core in
    rw (c.fill_copy.ensures, cache)
    (changed_stands (cache_at c.args.self.now.view c.args.core) c.args.local c.args.step.way _ c.requires.stands)

pub drop_at-requires : goal.drop_at-requires
drop_at-requires g c =
    let here = has_no_request _ c.args.self.now c.args.local c.args.core c.self.view_is c.requires.delivers.shaped
    c.requires.line c.requires.core c.requires.idle in
    record { line = here.line; there = here.core_there }

pub ask_to_write-requires : goal.ask_to_write-requires
ask_to_write-requires g c =
    let here = has_no_request _ c.args.self.now c.args.local c.args.core c.self.view_is c.requires.delivers.shaped
    c.requires.line c.requires.core c.requires.idle in
    let asks = may_ask c.self.inside.queues c.drop_at.new.self c.args.local c.args.core here.line here.core_there
    here.idle c.drop_at.ensures in
    record { line = asks.line; core = asks.core_there; idle = λ _. asks.idle; listed = asks.listed }

pub returns : goal.returns
returns g c =
    let v = c.args.self.now.view in
    let local = c.args.local in
    let core = c.args.core in
    let cache : c.index_mut-cache.result.now ≡ cache_at v core =
    read_cache _ _ _ _ c.index_mut-cache.ensures.value (ap (λ p. p.view.caches) c.self.view_is) c.requires.core in
    let q = c.self.inside.queues in
    let there : local.0 < length q.channels.lines = search rules in
    let asked : LineChannels → LineChannels = λ line.
    asked_by c.settle_copy-asks.result (after_take line (channels.Data core)) core in
    let queues = c.ask_to_write.ensures
    ∙ lent_again q c.drop_at.new.self local _
    (λ line. asked_by c.settle_copy-asks.result line core) there c.drop_at.ensures in
    let lines : c.ask_to_write.new.queues.channels.lines ≡ set v.channels local.0 (asked (channels_at v local)) =
    ap (λ k. k.channels.lines) queues
    ∙ ap (λ p. set p.view.channels local.0 (asked (channels_at p.view local))) c.self.view_is in
    let ring : c.ask_to_write.new.queues.ring ≡ with_listed c.args.self.now.ring local.0 =
    ap (λ k. k.ring) queues ∙ ap (λ p. with_listed p.ring local.0) c.self.view_is in
    let message : Some c.in-Some.message.now ≡ (core_at (channels_at v local) core.0).data = search rules in
    let is = subst
    (λ (s : CoreCacheView). c.fill_copy.new.cache
    ≡ after_change s local (filled_by (array_copy s local) (Some c.in-Some.message.now) c.args.step.next))
    cache c.fill_copy.ensures in
    let copy : Option DataMessage →
    CoreCacheView = λ d. after_change (cache_at v core) local
    (filled_by (array_copy (cache_at v core) local) d c.args.step.next) in
    let number = ap (λ p. length p.view.log) c.self.view_is in
    let after : c.settle_copy-asks.new.cache
    ≡ after_settle c.fill_copy.new.cache local (length v.log) c.settle_copy-asks.new.cache.misses =
    search rules in
    let logged = c.settle_copy-asks.ensures.log in
    settles c.args.self.now _ local core
    (channels.Data core) c.args.step.way _ c.fill_copy.new.cache c.settle_copy-asks.new.cache
    c.settle_copy-asks.result (asked (channels_at v local)) c.settle_copy-asks.new.log.items c.count_message.new.self
    c.settle_copy-asks.new.pending c.requires.stands (is ∙ ap copy message) c.settle_copy-asks.ensures.asks
    c.settle_copy-asks.ensures.taken c.settle_copy-asks.ensures.sound after
    (search rules) (search rules) refl (search rules) (search rules)
