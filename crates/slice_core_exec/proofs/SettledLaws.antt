-- The number of targets performed: it is the number of entries logged, and at most the number of those that wait.
use Rattle.std.proofs.Common.{◌≡◌, ◌∙◌, ℕ, ◌-◌, ◌≤◌, ◌++◌, Bool, false, subst, List, [], ◌∷◌, length, refl, ap, arith}
use Rattle.std.proofs.lemmas.List.{length-take}
use Rattle.slice_core_cache.proofs.Allowed.{take-front_loads}
use Rattle.address_map.specs.declared.address.CoreId.{CoreId}
use Rattle.address_map.specs.declared.block.Block.{Block}
use Rattle.cache_table.specs.declared.state.CopyState.{CopyState}
use Rattle.cache_table.specs.declared.state.CopyState.TheVariants as copy_states
use Rattle.address_map.specs.declared.address.Local.{Local}
use Rattle.mshr_file.specs.Miss.{IsMissFile, TakesTargets, targets_of}
use Rattle.mshr_file.specs.declared.registers.Register.{Register}
use Rattle.slice_answer.specs.Stats.{StatsView, after_message}
use Rattle.slice_log.specs.declared.entry.Entry.{Entry}
use Rattle.slice_core_spec.specs.Calls.{PartsView, Settles}
use Rattle.slice_core_spec.specs.Steps.{asked_by}
use Rattle.slice_core_spec.specs.View.{channels_at, first_word, cache_at, with_channels, with_cache}
use Rattle.slice_core_spec.specs.Within.{StandsAt, is_shared}
use Rattle.slice_core_cache.specs.Copy.{performed_on}
use Rattle.slice_core_cache.specs.Perform.{asks_to_write, entries_of, performed_in}
use Rattle.slice_core_cache.specs.CoreCache.{CoreCacheView, array_copy}
use Rattle.slice_core_cache.specs.Steps.{after_change, after_settle}
use Rattle.slice_core_cache.specs.declared.copy.CacheCopy.{CacheCopy}
use Rattle.slice_core_exec.proofs.ChangedLaws.{changed_copy}
use Rattle.slice_queues.specs.Line.{LineChannels, after_take}
use Rattle.slice_queues.specs.Ring.{with_listed}
use Rattle.slice_queues.specs.declared.channel.Channel.{Channel}
use Rattle.target_list.specs.Target.{front_loads}
use Rattle.target_list.specs.declared.target.Target.{Target}

-- each target that is performed has an entry
pub length-entries_of : (core : CoreId) (first : ℕ) (block : Block) (targets : List Target) →
    length (entries_of core first block targets) ≡ length targets
unfolding entries_of
length-entries_of core first block [] = refl
length-entries_of core first block (target ∷ targets) =
    let rest = length-entries_of core first (performed_on block target.offset.0 target.op) targets in
    omega (arith, rest)

-- no more are performed than wait
pub length-performed_in : (state : CopyState) (targets : List Target) →
    length (performed_in state targets) ≤ length targets
length-performed_in copy_states.S targets =
    let front = length (front_loads targets) in
    omega (arith, ap length (take-front_loads targets), length-take front targets)
length-performed_in _ targets = omega arith

-- a copy that isn't shared asks for nothing
pub asks-unshared : (state : CopyState) (targets : List Target) → is_shared state ≡ false →
    asks_to_write state targets ≡ false
asks-unshared copy_states.S targets e = cc
asks-unshared _ targets e = refl

-- a core whose copy was changed and then settled is as a message leaves it
pub settles : (old new : PartsView) (local : Local) (core : CoreId) (channel : Channel) (way : ℕ) (copy : CacheCopy)
    (changed cache : CoreCacheView) (asks : Bool) (line : LineChannels) (log : List Entry) (stats : StatsView)
    (pending : ℕ) →
    StandsAt (cache_at old.view core) local way →
    changed ≡ after_change (cache_at old.view core) local copy →
    asks ≡ asks_to_write (array_copy changed local).state (targets_of changed.misses local.0) →
    TakesTargets changed.misses cache.misses local.0
    (performed_in (array_copy changed local).state (targets_of changed.misses local.0)) →
    (IsMissFile changed.misses → IsMissFile cache.misses) →
    cache ≡ after_settle changed local (length old.view.log) cache.misses →
    log ≡ old.view.log ++ entries_of core (first_word old.view local) (array_copy changed local).block
    (performed_in (array_copy changed local).state (targets_of changed.misses local.0)) →
    pending ≡ old.pending - length (performed_in (array_copy changed local).state (targets_of changed.misses local.0)) →
    line ≡ asked_by asks (after_take (channels_at old.view local) channel) core →
    stats ≡ after_message old.stats channel →
    new ≡ record old {
      view = record (with_channels (with_cache old.view core cache) local line) { log = log };
      stats = stats;
      pending = pending;
      ring = with_listed old.ring local.0;
    } →
    Settles old local core channel copy new
settles old new local core channel way copy changed cache asks line log stats pending stands is asked taken sound after
    logged left
    sent counted made =
    let here : array_copy changed local ≡ copy =
    ap (λ (s : CoreCacheView). array_copy s local) is ∙ changed_copy (cache_at old.view core) local way copy stands in
    let kept : changed.misses ≡ (cache_at old.view core).misses = ap (λ (s : CoreCacheView). s.misses) is in
    let settled : cache
    ≡ after_settle (after_change (cache_at old.view core) local copy) local (length old.view.log) cache.misses =
    after ∙ ap (λ (s : CoreCacheView). after_settle s local (length old.view.log) cache.misses) is in
    let targets : List Register → List Target = λ misses. targets_of misses local.0 in
    let both_in : (P : CacheCopy → List Register → Type 0) → P (array_copy changed local) changed.misses →
    P copy (cache_at old.view core).misses =
    λ P old_fact. subst (λ (m : List Register). P copy m) kept
    (subst (λ (k : CacheCopy). P k changed.misses) here old_fact) in
    let waiting = targets (cache_at old.view core).misses in
    let taken_now = performed_in copy.state waiting in
    let cache_now =
    after_settle (after_change (cache_at old.view core) local copy) local (length old.view.log) cache.misses in
    let asks_at_last = asks_to_write copy.state waiting in
    let log_now = old.view.log ++ entries_of core (first_word old.view local) copy.block taken_now in
    let all : CoreCacheView → Bool → List Entry → ℕ → PartsView = λ s a l p. record old {
      view = record
          (with_channels (with_cache old.view core s) local
          (asked_by a (after_take (channels_at old.view local) channel) core))
          { log = l };
      stats = after_message old.stats channel;
      pending = p;
      ring = with_listed old.ring local.0;
    } in
    let plain : LineChannels → StatsView → PartsView = λ l st. record old {
      view = record (with_channels (with_cache old.view core cache) local l) { log = log };
      stats = st;
      pending = pending;
      ring = with_listed old.ring local.0;
    } in
    let asked_now = both_in (λ k m. asks ≡ asks_to_write k.state (targets m)) asked in
    let logged_now = both_in
    (λ k m. log
    ≡ old.view.log ++ entries_of core (first_word old.view local) k.block (performed_in k.state (targets m)))
    logged in
    let left_now = both_in (λ k m. pending ≡ old.pending - length (performed_in k.state (targets m))) left in (
      cache.misses,
      both_in (λ k m. TakesTargets m cache.misses local.0 (performed_in k.state (targets m))) taken,
      both_in (λ k m. IsMissFile m → IsMissFile cache.misses) sound,
      made
          ∙ ap (λ l. plain l stats) sent
          ∙ ap (plain (asked_by asks (after_take (channels_at old.view local) channel) core)) counted
          ∙ ap (λ s. all s asks log pending) settled
          ∙ ap (λ a. all cache_now a log pending) asked_now
          ∙ ap (λ l. all cache_now asks_at_last l pending) logged_now
          ∙ ap (all cache_now asks_at_last log_now) left_now,
    )
