-- What a core's cache says of its least reply holds of the slice.
use Rattle.std.proofs.Common.{◌≡◌, ◌<◌, ℕ, List, length, get_or, Some, refl, ap, ◌∙◌, subst}
use Rattle.std.specs.Prelude.{slice_get, slice_set}
use Rattle.std.proofs.lemmas.List.{get_or_read}
use Rattle.std.proofs.lemmas.Option.{slice_get_read}
use Rattle.slice_log.specs.declared.entry.Entry.{Entry}
use Rattle.address_map.specs.declared.address.CoreId.{CoreId}
use Rattle.slice_core_spec.specs.Calls.{PartsView, HasEntries, AfterHand}
use Rattle.slice_core_spec.specs.View.{View, no_cache, cache_at}
use Rattle.slice_core_cache.specs.CoreCache.{CoreCacheView}
use Rattle.slice_core_cache.specs.Steps.{after_hand, AfterHand as CacheAfterHand}
use Rattle.slice_core_cache.specs.Tags.{IsLeastReply}

-- an element that was read is the core's cache
pub cache-read : (v : View) (caches : List CoreCacheView) (core : CoreId) (cache : CoreCacheView) → caches ≡ v.caches
    → core.0 < length v.caches
    → cache ≡ get_or caches core.0 cache → cache ≡ cache_at v core
cache-read v caches core cache same within read =
    get_or_read v.caches core.0 cache within (read ∙ ap (λ xs. get_or xs core.0 cache) same) no_cache

-- an element that was read is the log's entry
pub entry-read : (v : View) (log : List Entry) (number : ℕ) (entry : Entry) → log ≡ v.log → number < length v.log
    → entry ≡ get_or log number entry → slice_get v.log number ≡ Some entry
entry-read v log number entry same within read =
    slice_get_read v.log (length v.log) number entry refl within (read ∙ ap (λ es. get_or es number entry) same)

-- the reply that a core hands out is in the log
pub entry-of-reply : (v : View) (core : CoreId) (number : ℕ) (cache after : CoreCacheView) → HasEntries v core
    → cache ≡ cache_at v core
    → CacheAfterHand cache (Some number) after → number < length v.log
entry-of-reply v core number cache after entries same h =
    entries h.0 number (subst (λ (s : CoreCacheView). IsLeastReply s.tags (Some (h.0, number))) same h.1).0

pub handed : (old new : PartsView) (core : CoreId) (number : ℕ) (cache after : CoreCacheView) (entry : Entry)
    → cache ≡ cache_at old.view core
    → CacheAfterHand cache (Some number) after → slice_get old.view.log number ≡ Some entry
    → new ≡ record old { view = record old.view { caches = slice_set old.view.caches core.0 after } }
    → AfterHand old core (Some (record { number = number; entry = entry })) new
handed old new core number cache after entry same h logged left = (
  h.0,
  subst (λ (s : CoreCacheView). IsLeastReply s.tags (Some (h.0, number))) same h.1,
  logged,
  left ∙ ap (λ s. record old { view = record old.view { caches = slice_set old.view.caches core.0 s } }) (h.2
      ∙ ap (λ s. after_hand s h.0) same),
)
