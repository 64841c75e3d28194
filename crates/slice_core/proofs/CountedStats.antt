-- What is counted of a core: each accepted request once, and no count has to stop.
use Rattle.std.proofs.Common.{◌≡◌, ℕ, ◌+◌, ◌^◌, ◌<◌, ◌≤◌, Bool, length, refl, sym, ap, ◌∙◌, ⊎_elim, arith}
use Rattle.std.proofs.lemmas.Bool.{cases_eq}
use Rattle.std.proofs.lemmas.List.{get_or-set_other, get_or-set_same, length-set}
use Rattle.std.proofs.lemmas.List.Sums.{count_by-le-length, get_or-le-sum_by}
use Rattle.address_map.specs.declared.address.CoreId.{CoreId}
use Rattle.slice_answer.specs.Stats.{accepted_of, after_eviction, after_hit, after_message, after_primary}
use Rattle.slice_answer.specs.Stats.{after_secondary, after_stall, next_count, counts_of, no_counts, with_counts}
use Rattle.slice_answer.specs.declared.answer.Stall.{Stall}
use Rattle.slice_answer.specs.declared.stats.CoreStats.{CoreStats}
use Rattle.slice_core_spec.specs.Calls.{PartsView}
use Rattle.slice_core_spec.specs.View.{no_cache, cache_at}
use Rattle.slice_core_cache.specs.CoreCache.{CoreCacheView}
use Rattle.slice_core_theory.specs.Standing.{is_of, target_count}
use Rattle.slice_core.proofs.CountedSteps.{Counts, CountsSame}
use Rattle.slice_core.specs.Sound.{HasAccounts, HasFittingCounts}
use Rattle.slice_queues.specs.declared.channel.Channel.{Channel}

-- No more targets wait for a core than wait in all.
pub waiting-within : (p : PartsView) (core : CoreId) → HasFittingCounts p → core.0 < length p.view.caches
    → target_count (cache_at p.view core).misses ≤ p.pending
waiting-within p core c known =
    let one = get_or-le-sum_by (λ (s : CoreCacheView). target_count s.misses) p.view.caches core.0 no_cache known in
    let all = c.pending in
    omega (arith, one, all)

-- What a core had accepted waits or was performed, so there was room for it.
pub accepted-within : (p : PartsView) (core : CoreId) → HasFittingCounts p → HasAccounts p.view
    → core.0 < length p.view.caches → (cache_at p.view core).accepted < 2 ^ 63
accepted-within p core c has known =
    let all = (has.accounts core known).standing.counted in
    let wait = waiting-within p core c known in
    let logged = count_by-le-length (is_of core.0) p.view.log in
    let fits = c.room in
    let bound = c.bounded in
    omega (arith, all, wait, logged, fits, bound)

-- The count of a core is the number that it accepted, the others' counts being as they were.
counts-with : (p : PartsView) (core : CoreId) (counts : CoreStats) (accepted : ℕ) → core.0 < length p.stats.cores
    → accepted_of counts ≡ accepted → Counts p core accepted (with_counts p.stats core counts)
counts-with p core counts accepted known are = record {
  sized = length-set p.stats.cores core.0 counts;
  here = ap accepted_of (get_or-set_same p.stats.cores core.0 counts no_counts known) ∙ are;
  others = λ other apart. ap accepted_of (get_or-set_other p.stats.cores core.0 other.0 counts no_counts apart);
}

-- A number below 2 ^ 63 is counted on.
counted-on : (n : ℕ) → n < 2 ^ 63 → next_count n ≡ n + 1
counted-on n small = omega (arith, small)

module _ (p : PartsView) (core : CoreId) (known : core.0 < length p.stats.cores) (accepted : ℕ)
    (are : accepted_of (counts_of p.stats core) ≡ accepted) where
  pub counts-same : Counts p core accepted p.stats
  counts-same = record { sized = refl; here = are; others = λ other apart. refl }

  pub counts-stall : (stall : Stall) → Counts p core accepted (after_stall p.stats core stall)
  counts-stall stall = counts-with p core _ accepted known are

  pub counts-eviction : Counts p core accepted (after_eviction p.stats core)
  counts-eviction = counts-with p core _ accepted known are

  pub counts-hit : (silent : Bool) → accepted < 2 ^ 63 → Counts p core (accepted + 1) (after_hit p.stats core silent)
  counts-hit silent small =
      counts-with p core _ (accepted + 1) known
      (one_more (counts_of p.stats core).hits (counts_of p.stats core).primary (counts_of p.stats core).secondary are)
    where
      one_more : (hits primary secondary : ℕ) → hits + primary + secondary ≡ accepted
          → next_count hits + primary + secondary ≡ accepted + 1
      one_more hits primary secondary all =
          let on = counted-on hits (omega (arith, all, small)) in
          omega (arith, all, on)

  pub counts-primary : accepted < 2 ^ 63 → Counts p core (accepted + 1) (after_primary p.stats core)
  counts-primary small =
      counts-with p core _ (accepted + 1) known
      (one_more (counts_of p.stats core).hits (counts_of p.stats core).primary (counts_of p.stats core).secondary are)
    where
      one_more : (hits primary secondary : ℕ) → hits + primary + secondary ≡ accepted
          → hits + next_count primary + secondary ≡ accepted + 1
      one_more hits primary secondary all =
          let on = counted-on primary (omega (arith, all, small)) in
          omega (arith, all, on)

  pub counts-secondary : accepted < 2 ^ 63 → Counts p core (accepted + 1) (after_secondary p.stats core)
  counts-secondary small =
      counts-with p core _ (accepted + 1) known
      (one_more (counts_of p.stats core).hits (counts_of p.stats core).primary (counts_of p.stats core).secondary are)
    where
      one_more : (hits primary secondary : ℕ) → hits + primary + secondary ≡ accepted
          → hits + primary + next_count secondary ≡ accepted + 1
      one_more hits primary secondary all =
          let on = counted-on secondary (omega (arith, all, small)) in
          omega (arith, all, on)

  -- A stall is no accepted request.
  pub same-stall : (stall : Stall) → CountsSame p (after_stall p.stats core stall)
  same-stall stall = record {
    sized = (counts-stall stall).sized;
    each = λ other. ⊎_elim
        (λ same.
        ap (λ n. accepted_of (counts_of (after_stall p.stats core stall) (record { 0 = n }))) same
        ∙ (counts-stall stall).here ∙ sym are
        ∙ ap (λ n. accepted_of (counts_of p.stats (record { 0 = n }))) (sym same))
        (λ apart. (counts-stall stall).others other apart) (cases_eq other.0 core.0);
  }

-- Neither is a message that was taken, nor nothing at all.
pub same-message : (p : PartsView) (channel : Channel) → CountsSame p (after_message p.stats channel)
same-message p channel = record { sized = refl; each = λ core. refl }

pub same-none : (p : PartsView) → CountsSame p p.stats
same-none p = record { sized = refl; each = λ core. refl }
