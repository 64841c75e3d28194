-- The accounts of a slice's cores after a step of one core.
use Rattle.std.proofs.Common.{◌≡◌, ◌≢◌, ℕ, ◌<◌, List, ◌++◌, length, sym, ◌∙◌, ⊎_elim, arith}
use Rattle.std.specs.Prelude.{slice_set, All}
use Rattle.std.proofs.lemmas.Bool.{cases_eq}
use Rattle.std.proofs.lemmas.List.{length-set}
use Rattle.std.proofs.lemmas.List.Elements.{All-weaker}
use Rattle.address_map.specs.Locator.{Lines}
use Rattle.address_map.specs.declared.address.CoreId.{CoreId}
use Rattle.slice_core_cache.specs.CoreCache.{CoreCacheView}
use Rattle.slice_core_spec.specs.View.{View, cache_at, with_cache}
use Rattle.slice_core_theory.proofs.Grown.{account-others, no_entry-others}
use Rattle.slice_core_theory.specs.Standing.{HasNoEntry, IsAccount}
use Rattle.slice_log.specs.Log.{IsOrdered}
use Rattle.slice_log.specs.declared.entry.Entry.{Entry}
use Rattle.slice_core.proofs.CountedSteps.{cache-here, cache-there}
use Rattle.slice_core.specs.Sound.{HasAccounts}

-- What one cache has of an account.
abbrev pub HasAccount : Lines → List Entry → ℕ → CoreCacheView → Type 0
HasAccount lines log core cache = IsAccount lines log core cache.misses cache.tags cache.accepted

-- All that was performed since is the core's own: the accounts of the others are unchanged.
pub record IsOwn (lines : Lines) (core : ℕ) (old new : List Entry) : Type 0 where
  pub accounts : (other : ℕ) (cache : CoreCacheView) → other ≢ core → HasAccount lines old other cache
      → HasAccount lines new other cache
  pub absent : (other : ℕ) → other ≢ core → HasNoEntry other old → HasNoEntry other new

pub own-none : (lines : Lines) (core : ℕ) (log : List Entry) → IsOwn lines core log log
own-none lines core log = record {
  accounts = λ other cache apart account. account;
  absent = λ other apart absent. absent;
}

pub own-more : (lines : Lines) (core : ℕ) (log more : List Entry) → All (λ entry. entry.core.0 ≡ core) more
    → IsOwn lines core log (log ++ more)
own-more lines core log more own = record {
  accounts = λ other cache apart account.
      account-others lines log more other cache.misses cache.tags cache.accepted (others other apart) account;
  absent = λ other apart absent. no_entry-others other log more (others other apart) absent;
}
  where
    others : (other : ℕ) → other ≢ core → All (λ (entry : Entry). entry.core.0 ≢ other) more
    others other apart =
        All-weaker (λ entry. entry.core.0 ≡ core) (λ entry. entry.core.0 ≢ other)
        (λ entry mine same. apart (sym same ∙ mine)) more own

-- A core's step keeps the accounts where its own is right, and what it performed is its own, in order.
pub accounts-step : (v : View) (core : CoreId) (cache : CoreCacheView) (log : List Entry) → core.0 < length v.caches
    → IsOwn v.lines core.0 v.log log → HasAccount v.lines log core.0 cache → IsOrdered log → HasAccounts v
    → HasAccounts (record (with_cache v core cache) { log = log })
accounts-step v core cache log known own account ordered has = record {
  accounts = λ other inside. ⊎_elim (here other) (there other (omega (arith, inside, long))) (cases_eq other.0 core.0);
  absent = λ other past. own.absent other (λ same. omega (arith, past, known, same, long))
      (has.absent other (omega (arith, past, long)));
  ordered = ordered;
}
  where
    long : length (slice_set v.caches core.0 cache) ≡ length v.caches
    long = length-set v.caches core.0 cache

    here : (other : CoreId) → other.0 ≡ core.0 →
        HasAccount v.lines log other.0 (cache_at (with_cache v core cache) other)
    here other same = rw (cache-here v core cache known other same, same) account

    there : (other : CoreId) → other.0 < length v.caches → other.0 ≢ core.0
        → HasAccount v.lines log other.0 (cache_at (with_cache v core cache) other)
    there other inside apart =
        rw (cache-there v core cache known other apart)
        (own.accounts other.0 (cache_at v other) apart (has.accounts other inside))

-- A view with the same caches, log and lines has the same accounts.
pub accounts-posted : (v now : View) → now.lines ≡ v.lines → now.caches ≡ v.caches → now.log ≡ v.log → HasAccounts v
    → HasAccounts now
accounts-posted v now lines caches log has = record {
  accounts = λ core inside. rw (lines, caches, log) (has.accounts core (rw caches at inside));
  absent = λ core past. rw log (has.absent core (rw caches at past));
  ordered = rw log has.ordered;
}
