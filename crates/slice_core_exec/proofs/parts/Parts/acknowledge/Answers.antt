use Rattle.std.proofs.Common.{◌≡◌, ◌∙◌, false, ap, sym, subst, refl, rules, length}
use Rattle.std.proofs.Math.ListN.{set}
use Rattle.mshr_file.specs.Miss.{targets_of}
use Rattle.slice_core_cache.specs.Perform.{asks_to_write}
use Rattle.slice_core_cache.specs.CoreCache.{CoreCacheView, array_copy}
use Rattle.slice_core_cache.specs.Steps.{copy_after_ack, after_change, after_settle}
use Rattle.slice_core_spec.specs.View.{channels_at, cache_at}
use Rattle.slice_core_exec.proofs.ChangedLaws.{changed_copy, changed_stands}
use Rattle.slice_core_exec.proofs.SettledLaws.{asks-unshared, settles}
use Rattle.slice_core_exec.proofs.StandsLaws.{read_cache}
use Rattle.slice_core_exec.proofs.parts.Parts.acknowledge.Goals as goal
use Rattle.slice_queues.specs.Line.{LineChannels, after_take}
use Rattle.slice_queues.specs.Ring.{with_listed}
use Rattle.slice_queues.specs.declared.channel.Channel.TheVariants as channels

pub settle_copy-requires-clause-held : goal.settle_copy-requires-clause-held
settle_copy-requires-clause-held g c =
    let cache : c.index_mut-cache.result.now ≡ cache_at c.args.self.now.view c.args.to =
    read_cache _ _ _ _ c.index_mut-cache.ensures.value (ap (λ p. p.view.caches) c.self.view_is) c.requires.to in
    rw (c.acknowledge.ensures, cache)
    (changed_stands (cache_at c.args.self.now.view c.args.to) c.args.local c.args.step.way _ c.requires.stands)

pub returns : goal.returns
returns g c =
    let v = c.args.self.now.view in
    let local = c.args.local in
    let core = c.args.to in
    let old = cache_at v core in
    let cache : c.index_mut-cache.result.now ≡ cache_at v core =
    read_cache _ _ _ _ c.index_mut-cache.ensures.value (ap (λ p. p.view.caches) c.self.view_is) c.requires.to in
    let copy = copy_after_ack (array_copy old local) c.args.step.next in
    let is : c.acknowledge.new.self ≡ after_change old local copy = subst
    (λ (s : CoreCacheView). c.acknowledge.new.self
    ≡ after_change s local (copy_after_ack (array_copy s local) c.args.step.next))
    cache c.acknowledge.ensures in
    let here : array_copy c.acknowledge.new.self local ≡ copy =
    ap (λ (s : CoreCacheView). array_copy s local) is ∙ changed_copy old local c.args.step.way copy c.requires.stands in
    let none : asks_to_write (array_copy c.acknowledge.new.self local).state
    (targets_of c.acknowledge.new.self.misses local.0) ≡ false =
    ap (λ k. asks_to_write k.state (targets_of c.acknowledge.new.self.misses local.0)) here
    ∙ asks-unshared c.args.step.next (targets_of c.acknowledge.new.self.misses local.0) c.requires.waits in
    let after : c.settle_copy.new.cache
    ≡ after_settle c.acknowledge.new.self local (length v.log) c.settle_copy.new.cache.misses =
    search rules in
    let take : LineChannels → LineChannels = λ line. after_take line (channels.Ack core c.args.from) in
    let lines : c.drop_at.new.self.channels.lines ≡ set v.channels local.0 (take (channels_at v local)) =
    ap (λ k. k.channels.lines) c.drop_at.ensures
    ∙ ap (λ p. set p.view.channels local.0 (take (channels_at p.view local))) c.self.view_is in
    let ring : c.drop_at.new.self.ring ≡ with_listed c.args.self.now.ring local.0 =
    ap (λ k. k.ring) c.drop_at.ensures ∙ ap (λ p. with_listed p.ring local.0) c.self.view_is in
    settles c.args.self.now _ local core
    (channels.Ack core c.args.from) c.args.step.way _ c.acknowledge.new.self c.settle_copy.new.cache
    false (after_take (channels_at v local) (channels.Ack core c.args.from)) c.settle_copy.new.log.items
    c.count_message.new.self
    c.settle_copy.new.pending c.requires.stands is (sym none)
    c.settle_copy.ensures.taken c.settle_copy.ensures.sound after
    (search rules) (search rules) refl (search rules) (search rules)
