-- What each step of a slice leaves as it was.
use Rattle.std.proofs.Common.{◌≡◌, ◌≢◌, ℕ, ◌<◌, ◌≤◌, Bool, true, false, List, length, Option, Some, IsSome, is_some}
use Rattle.std.proofs.Common.{get_or, set, refl, sym, ap, ◌∙◌}
use Rattle.std.proofs.Common.{subst, inl, inr, length-set}
use Rattle.std.specs.Prelude.{◌⊎◌, if◌then◌else◌}
use Rattle.std.proofs.lemmas.List.{get_or-set_other}
use Rattle.address_map.specs.Place.{offset_of}
use Rattle.address_map.specs.declared.address.CoreId.{CoreId}
use Rattle.address_map.specs.declared.address.Local.{Local}
use Rattle.address_map.specs.declared.request.Request.{Request}
use Rattle.cache_array.specs.Array.{held_at as array_at}
use Rattle.cache_table.specs.CopyState.{is_waiting}
use Rattle.cache_table.specs.declared.row.CacheSends.{CacheSends}
use Rattle.cache_table.specs.declared.state.CopyState.{CopyState}
use Rattle.directory_table.specs.declared.row.DirStep.{DirStep}
use Rattle.directory_table.specs.declared.state.DirState.{DirState}
use Rattle.mshr_file.specs.Miss.{targets_of}
use Rattle.mshr_file.specs.declared.registers.Register.{Register}
use Rattle.slice_core_cache.proofs.Found.{changes-change, copy_of-after_advance_other, copy_of-after_change_other}
use Rattle.slice_core_cache.proofs.Found.{copy_of-after_evict_other, copy_of-after_hit_other, copy_of-after_replace_other}
use Rattle.slice_core_cache.proofs.Found.{copy_of-after_settle_other, kept-after_change, kept-after_replace}
use Rattle.slice_core_cache.specs.Access.{CanLeave}
use Rattle.slice_core_cache.specs.Copy.{is_gone}
use Rattle.slice_core_cache.specs.CoreCache.{CoreCacheView, copy_of, state_of}
use Rattle.slice_core_cache.specs.Kept.{IsKept, stands_in_array}
use Rattle.slice_core_cache.specs.Steps as caches
use Rattle.slice_core_cache.specs.declared.access.Ask.{Ask}
use Rattle.slice_core_cache.specs.declared.access.Placement.{Placement}
use Rattle.slice_core_cache.specs.declared.access.Placement.TheVariants as placements
use Rattle.slice_core_cache.specs.declared.copy.CacheCopy.{CacheCopy}
use Rattle.slice_core_theory.proofs.Accesses.{HasPlace, HasPlaceFor, HasVictimFor, cache_replaced, can_leave, has_way}
use Rattle.slice_core_theory.proofs.Accesses.{opens}
use Rattle.slice_core_theory.proofs.Frame.{by_number, read-set}
use Rattle.slice_core_theory.proofs.Settling.{waits-held}
use Rattle.slice_core_spec.specs.Steps.{after_directory, after_evict, after_forwarded, after_hand, after_hit, after_home}
use Rattle.slice_core_spec.specs.Steps.{after_join, after_open, after_opening, after_settling, with_way}
use Rattle.slice_core_spec.specs.View.{View, IsShaped, cache_at, channels_at, entry_at, no_cache, no_entry}
use Rattle.slice_queues.specs.Line.{empty_line}
use Rattle.slice_queues.specs.declared.channel.Channel.{Channel}

-- The view went from the one to the other, and only lines At these places, and one core, can have changed.
pub record Leaves (At : ℕ → Type 0) (core : Option CoreId) (old new : View) : Type 0 where
  pub entries : (l : Local) → (At l.0 → ⊥) → entry_at new l ≡ entry_at old l
  pub channels : (l : Local) → (At l.0 → ⊥) → channels_at new l ≡ channels_at old l
  pub copies : (c : CoreId) (l : Local) → (At l.0 → ⊥) → copy_of (cache_at new c) l ≡ copy_of (cache_at old c) l
  pub targets : (c : CoreId) (l : Local) → (At l.0 → ⊥)
      → targets_of (cache_at new c).misses l.0 ≡ targets_of (cache_at old c).misses l.0
  pub cores : (c : CoreId) → core ≢ Some c → cache_at new c ≡ cache_at old c

pub leaves_all : (At : ℕ → Type 0) (core : Option CoreId) (old new : View) → new ≡ old → Leaves At core old new
leaves_all At core old new is =
    subst (Leaves At core old) (sym is)
    (record {
      entries = λ l apart. refl;
      channels = λ l apart. refl;
      copies = λ c l apart. refl;
      targets = λ c l apart. refl;
      cores = λ c apart. refl;
    })

pub leaves_then : (At : ℕ → Type 0) (core : Option CoreId) (old mid new : View) → Leaves At core old mid
    → Leaves At core mid new → Leaves At core old new
leaves_then At core old mid new one two = record {
  entries = λ l apart. two.entries l apart ∙ one.entries l apart;
  channels = λ l apart. two.channels l apart ∙ one.channels l apart;
  copies = λ c l apart. two.copies c l apart ∙ one.copies c l apart;
  targets = λ c l apart. two.targets c l apart ∙ one.targets c l apart;
  cores = λ c apart. two.cores c apart ∙ one.cores c apart;
}

pub leaves_more : (At More : ℕ → Type 0) (core : Option CoreId) (old new : View) → ((n : ℕ) → At n → More n)
    → Leaves At core old new → Leaves More core old new
leaves_more At More core old new wider one = record {
  entries = λ l apart. one.entries l (λ here. apart (wider l.0 here));
  channels = λ l apart. one.channels l (λ here. apart (wider l.0 here));
  copies = λ c l apart. one.copies c l (λ here. apart (wider l.0 here));
  targets = λ c l apart. one.targets c l (λ here. apart (wider l.0 here));
  cores = one.cores;
}

-- ---- one core's cache is another

module _ (v : View) (core : CoreId) (cache : CoreCacheView) (known : core.0 < length v.caches) where
  -- what is the same of the core's cache is the same of each core's
  same_at : {X : Type 0} (f : CoreCacheView → X) → f cache ≡ f (cache_at v core) → (c : CoreId)
      → f (get_or (set v.caches core.0 cache) c.0 no_cache) ≡ f (cache_at v c)
  same_at f same c =
      ap f (read-set v.caches core.0 c.0 cache no_cache known)
      ∙ by_number c.0 core.0 (λ b. f (if b then cache else cache_at v c) ≡ f (cache_at v c))
      (λ here. same ∙ ap (λ n. f (get_or v.caches n no_cache)) (sym here)) (λ far. refl)

  other_core : (c : CoreId) → Some core ≢ Some c → get_or (set v.caches core.0 cache) c.0 no_cache ≡ cache_at v c
  other_core c apart =
      get_or-set_other v.caches core.0 c.0 cache no_cache
      (λ same. apart (ap (λ n. Some (record { 0 = n })) (sym same)))

-- ---- accesses

module _ (v : View) (core : CoreId) (local : Local) (known : core.0 < length v.caches) (kept : IsKept (cache_at v core))
  where
    abbrev Here : ℕ → Type 0
    Here n = n ≡ local.0

    pub leaves_hit : (request : Request) (next : CopyState) → IsSome (array_at (cache_at v core).array local)
        → Leaves Here (Some core) v (after_hit v core request local next)
    leaves_hit request next held =
        let cache = cache_at v core in
        let after = caches.after_hit cache local (offset_of request.word).0 request.op next in record {
          entries = λ l apart. refl;
          channels = λ l apart. refl;
          copies = λ c l apart. same_at v core after known (λ (k : CoreCacheView). copy_of k l)
              (copy_of-after_hit_other cache local kept held (offset_of request.word).0 request.op next l apart) c;
          targets = λ c l apart. same_at v core after known (λ (k : CoreCacheView). targets_of k.misses l.0) refl c;
          cores = other_core v core after known;
        }

    pub leaves_opening : (request : Request) (held : Bool) (next : CopyState) (ask : Ask) (misses : List Register)
        (others : (l : ℕ) → l ≢ local.0 → targets_of misses l ≡ targets_of (cache_at v core).misses l)
        → HasPlace (cache_at v core) local held
        → Leaves Here (Some core) v (after_opening v core request local held next ask misses)
    leaves_opening request held next ask misses others place =
        let cache = cache_at v core in
        let after = caches.after_open cache local held next request misses in record {
          entries = λ l apart. refl;
          channels = λ l apart. get_or-set_other v.channels local.0 l.0 _ (empty_line 0) apart;
          copies = λ c l apart. same_at v core after known (λ (k : CoreCacheView). copy_of k l)
              ((opens cache local kept held place next request misses).others l apart) c;
          targets = λ c l apart. same_at v core after known (λ (k : CoreCacheView). targets_of k.misses l.0)
              (others l.0 apart) c;
          cores = other_core v core after known;
        }

    pub leaves_evict : CanLeave (cache_at v core) local → Leaves Here (Some core) v (after_evict v core local)
    leaves_evict leaves =
        let cache = cache_at v core in
        let after = caches.after_evict cache local in record {
          entries = λ l apart. refl;
          channels = λ l apart. get_or-set_other v.channels local.0 l.0 _ (empty_line 0) apart;
          copies = λ c l apart. same_at v core after known (λ (k : CoreCacheView). copy_of k l)
              (copy_of-after_evict_other cache local kept leaves l apart) c;
          targets = λ c l apart. same_at v core after known (λ (k : CoreCacheView). targets_of k.misses l.0) refl c;
          cores = other_core v core after known;
        }

pub leaves_join : (v : View) (core : CoreId) (local : Local) (request : Request) (misses : List Register)
    → core.0 < length v.caches
    → ((l : ℕ) → l ≢ local.0 → targets_of misses l ≡ targets_of (cache_at v core).misses l)
    → Leaves (λ n. n ≡ local.0) (Some core) v (after_join v core request misses)
leaves_join v core local request misses known others =
    let after = caches.after_join (cache_at v core) request misses in record {
      entries = λ l apart. refl;
      channels = λ l apart. refl;
      copies = λ c l apart. same_at v core after known (λ (k : CoreCacheView). copy_of k l) refl c;
      targets = λ c l apart. same_at v core after known (λ (k : CoreCacheView). targets_of k.misses l.0) (others l.0 apart) c;
      cores = other_core v core after known;
    }

pub leaves_hand : (At : ℕ → Type 0) (v : View) (core : CoreId) (tag : ℕ) → core.0 < length v.caches
    → Leaves At (Some core) v (after_hand v core tag)
leaves_hand At v core tag known =
    let after = caches.after_hand (cache_at v core) tag in record {
      entries = λ l apart. refl;
      channels = λ l apart. refl;
      copies = λ c l apart. same_at v core after known (λ (k : CoreCacheView). copy_of k l) refl c;
      targets = λ c l apart. same_at v core after known (λ (k : CoreCacheView). targets_of k.misses l.0) refl c;
      cores = other_core v core after known;
    }

-- ---- a line that is evicted for another

module _ (v : View) (core : CoreId) (local : Local) (shaped : IsShaped v) (most : length v.caches ≤ 64)
    (known : core.0 < length v.caches) (inside : local.0 < v.lines.lines) (kept : IsKept (cache_at v core)) where
  -- the places that a miss with this placement can change
  abbrev pub OpenedAt : Placement → ℕ → Type 0
  OpenedAt placements.Victim n = (n ≡ local.0) ⊎ (n ≡ (caches.victim_for (cache_at v core) local).0)
  OpenedAt placement n = n ≡ local.0

  pub leaves_open : (request : Request) (placement : Placement) (next : CopyState) (ask : Ask) (misses : List Register)
      → ((l : ℕ) → l ≢ local.0 → targets_of misses l ≡ targets_of (cache_at v core).misses l)
      → HasPlaceFor (cache_at v core) local placement → HasVictimFor v core local placement
      → Leaves (OpenedAt placement) (Some core) v (after_open v core request local placement next ask misses)
  leaves_open request placements.Held next ask misses others place victim =
      leaves_opening v core local known kept request true next ask misses others place
  leaves_open request placements.Free next ask misses others place victim =
      leaves_opening v core local known kept request false next ask misses others place
  leaves_open request placements.Victim next ask misses others place victim =
      let cache = cache_at v core in
      let gone = caches.victim_for cache local in
      let At : ℕ → Type 0 = OpenedAt placements.Victim in
      let can = can_leave v core local shaped most known inside kept place victim in
      let replaced = caches.after_replace cache local in
      let way = with_way v core local placements.Victim in
      let sized = length-set v.caches core.0 replaced in
      let there = cache_replaced v core local shaped most known inside kept place victim in
      let left : Leaves At (Some core) v way = record {
        entries = λ l apart. refl;
        channels = λ l apart. get_or-set_other v.channels gone.0 l.0 _ (empty_line 0) (λ same. apart (inr same));
        copies = λ c l apart. same_at v core replaced known (λ (k : CoreCacheView). copy_of k l)
            (copy_of-after_replace_other cache local kept can l (λ same. apart (inr same))) c;
        targets = λ c l apart. same_at v core replaced known (λ (k : CoreCacheView). targets_of k.misses l.0) refl c;
        cores = other_core v core replaced known;
      } in
      let opened = leaves_opening way core local (subst (λ n. core.0 < n) (sym sized) known)
      (subst IsKept (sym there) (kept-after_replace cache local kept can)) request false next ask misses
      (λ l apart. others l apart ∙ ap (λ (k : CoreCacheView). targets_of k.misses l) (sym there))
      (subst (λ (k : CoreCacheView). HasPlace k local false) (sym there)
      (has_way v core local shaped most known inside kept place victim)) in
      leaves_then At (Some core) v way _ left
      (leaves_more (λ n. n ≡ local.0) At (Some core) way _ (λ n here. inl here) opened)

-- ---- messages

kept_if : {A : Type 0} (f : CoreCacheView → A) (b : Bool) (old one other : CoreCacheView) → f one ≡ f old
    → f other ≡ f old → f (if b then one else other) ≡ f old
kept_if f true old one other first second = first
kept_if f false old one other first second = second

-- a copy that goes on leaves the core's registers
misses_on : (cache : CoreCacheView) (local : Local) (next : CopyState)
    → (caches.after_advance cache local next).misses ≡ cache.misses
misses_on cache local next =
    kept_if (λ (k : CoreCacheView). k.misses) (is_some (array_at cache.array local)) cache
    (caches.advanced_in_array cache local next) (caches.advanced_in_buffer cache local next)
    (kept_if (λ (k : CoreCacheView). k.misses) (is_gone next) cache _ _ refl refl)
    (kept_if (λ (k : CoreCacheView). k.misses) (is_gone next) cache _ _ refl refl)

pub leaves_directory : (v : View) (local : Local) (core : CoreId) (step : DirStep) (by : Option CoreId)
    → Leaves (λ n. n ≡ local.0) by v (after_directory v local core step)
leaves_directory v local core step by = record {
  entries = λ l apart. get_or-set_other v.entries local.0 l.0 _ no_entry apart;
  channels = λ l apart. get_or-set_other v.channels local.0 l.0 _ (empty_line 0) apart;
  copies = λ c l apart. refl;
  targets = λ c l apart. refl;
  cores = λ c apart. refl;
}

pub leaves_home : (v : View) (local : Local) (state : DirState) (owner : Option CoreId) (sharers : ℕ)
    (by : Option CoreId) → Leaves (λ n. n ≡ local.0) by v (after_home v local state owner sharers)
leaves_home v local state owner sharers by = record {
  entries = λ l apart. get_or-set_other v.entries local.0 l.0 _ no_entry apart;
  channels = λ l apart. get_or-set_other v.channels local.0 l.0 _ (empty_line 0) apart;
  copies = λ c l apart. refl;
  targets = λ c l apart. refl;
  cores = λ c apart. refl;
}

module _ (v : View) (local : Local) (core : CoreId) (known : core.0 < length v.caches) (kept : IsKept (cache_at v core))
  where
    pub leaves_forwarded : (next : CopyState) (sent : CacheSends) (requester : CoreId)
        → Leaves (λ n. n ≡ local.0) (Some core) v (after_forwarded v local core next sent requester)
    leaves_forwarded next sent requester =
        let cache = cache_at v core in
        let after = caches.after_advance cache local next in record {
          entries = λ l apart. refl;
          channels = λ l apart. get_or-set_other v.channels local.0 l.0 _ (empty_line 0) apart;
          copies = λ c l apart. same_at v core after known (λ (k : CoreCacheView). copy_of k l)
              (copy_of-after_advance_other cache local kept next l apart) c;
          targets = λ c l apart. same_at v core after known (λ (k : CoreCacheView). targets_of k.misses l.0)
              (ap (λ all. targets_of all l.0) (misses_on cache local next)) c;
          cores = other_core v core after known;
        }

    -- a copy that waited has come to its state, and what it allows was performed
    pub leaves_settling : (channel : Channel) (came : CacheCopy) (misses : List Register)
        → is_waiting (state_of (cache_at v core) local) ≡ true → stands_in_array came.state ≡ true
        → ((l : ℕ) → l ≢ local.0 → targets_of misses l ≡ targets_of (cache_at v core).misses l)
        → Leaves (λ n. n ≡ local.0) (Some core) v (after_settling v local core channel came misses)
    leaves_settling channel came misses waited stands others =
        let cache = cache_at v core in
        let held = waits-held cache local kept waited in
        let middle = caches.after_change cache local came in
        let held_then : IsSome (array_at middle.array local) =
        ap is_some (changes-change cache local kept held came).in_array in
        let kept_then = kept-after_change cache local kept held came stands in
        let after = caches.after_settle middle local (length v.log) misses in record {
          entries = λ l apart. refl;
          channels = λ l apart. get_or-set_other v.channels local.0 l.0 _ (empty_line 0) apart;
          copies = λ c l apart. same_at v core after known (λ (k : CoreCacheView). copy_of k l)
              (copy_of-after_settle_other middle local kept_then held_then (length v.log) misses l apart
              ∙ copy_of-after_change_other cache local kept held came l apart) c;
          targets = λ c l apart. same_at v core after known (λ (k : CoreCacheView). targets_of k.misses l.0)
              (others l.0 apart) c;
          cores = other_core v core after known;
        }
