-- Each step of a core leaves the shape of its part.
use Rattle.std.proofs.Common.{◌≡◌, ℕ, Bool, true, false, if◌then◌else◌, is_some, List, [], ◌∷◌, map, refl, ap, ◌∙◌}
use Rattle.std.proofs.Math.Seq.{map-set_same}
use Rattle.address_map.specs.declared.address.CoreId.{CoreId}
use Rattle.address_map.specs.declared.address.Local.{Local}
use Rattle.address_map.specs.declared.config.PolicyKind.{PolicyKind}
use Rattle.address_map.specs.declared.request.Op.{Op}
use Rattle.address_map.specs.declared.request.Request.{Request}
use Rattle.cache_array.specs.Array.{ArrayView, held_at as array_at, set_index, set_of, with_slots}
use Rattle.cache_array.specs.Set.{SetView, empty_set}
use Rattle.cache_array.specs.declared.set.Slot.{Slot}
use Rattle.cache_table.specs.declared.state.CopyState.{CopyState}
use Rattle.mshr_file.specs.Miss.{targets_of}
use Rattle.mshr_file.specs.declared.registers.Register.{Register}
use Rattle.slice_core.specs.Shape.{shape_of}
use Rattle.slice_core_cache.specs.Copy.{is_gone, performed_on}
use Rattle.slice_core_cache.specs.Perform.{performed_in}
use Rattle.slice_core_cache.specs.CoreCache.{CoreCacheView, array_copy}
use Rattle.slice_core_cache.specs.Steps.{advanced_in_array, advanced_in_buffer, after_advance, after_change, after_draw}
use Rattle.slice_core_cache.specs.Steps.{after_evict, after_hit, after_open, after_replace, after_settle}
use Rattle.slice_core_cache.specs.Steps.{copy_after_settle, array_after_use}
use Rattle.slice_core_cache.specs.Steps.{used_by, victim_for, with_copy, without_line_in}
use Rattle.slice_core_cache.specs.declared.copy.CacheCopy.{CacheCopy}
use Rattle.slice_core_spec.specs.View.{View, no_cache, cache_at, with_cache}
use Rattle.target_list.specs.declared.target.Target.{Target}
use Rattle.writeback_buffer.specs.Buffer.{with_state, without_line}

-- Where one core has another part of the shape that it had, each core has its shape.
pub shapes-kept : (v : View) (core : CoreId) (cache : CoreCacheView) → shape_of cache ≡ shape_of (cache_at v core)
    → map shape_of (with_cache v core cache).caches ≡ map shape_of v.caches
shapes-kept v core cache same = map-set_same shape_of v.caches core.0 cache no_cache same

-- ---- arrays

-- the ways of each set
abbrev ways_of : ArrayView CacheCopy PolicyKind → List ℕ
ways_of array = map (λ (set : SetView CacheCopy). set.ways) array.sets

-- Whatever is in the slots of a set, each set has its ways.
ways-kept : (array : ArrayView CacheCopy PolicyKind) (local : Local) (slots : List (Slot CacheCopy))
    → ways_of (with_slots array local slots) ≡ ways_of array
ways-kept array local slots =
    map-set_same (λ (set : SetView CacheCopy). set.ways) array.sets (set_index array local)
    (record (set_of array local) { slots = slots }) (empty_set 0) refl

used-ways : (targets : List Target) (array : ArrayView CacheCopy PolicyKind) (local : Local)
    → ways_of (used_by targets array local) ≡ ways_of array
used-ways [] array local = refl
used-ways (target ∷ targets) array local = ways-kept array local _

used-policy : (targets : List Target) (array : ArrayView CacheCopy PolicyKind) (local : Local)
    → (used_by targets array local).policy ≡ array.policy
used-policy [] array local = refl
used-policy (target ∷ targets) array local = refl

-- An array of the same ways and policy leaves the shape.
same-array : (cache : CoreCacheView) (array : ArrayView CacheCopy PolicyKind) → ways_of array ≡ ways_of cache.array
    → array.policy ≡ cache.array.policy → shape_of (record cache { array = array }) ≡ shape_of cache
same-array cache array ways policy =
    ap (λ (it : List ℕ). record (shape_of (record cache { array = array })) { ways = it }) ways
    ∙ ap (λ (it : PolicyKind). record (shape_of cache) { policy = it }) policy

-- other slots of one set, and so another copy, one line more or less
with-slots : (cache : CoreCacheView) (local : Local) (slots : List (Slot CacheCopy))
    → shape_of (record cache { array = with_slots cache.array local slots }) ≡ shape_of cache
with-slots cache local slots =
    same-array cache (with_slots cache.array local slots) (ways-kept cache.array local slots) refl

-- ---- accesses and evictions

pub shape-hit : (cache : CoreCacheView) (local : Local) (offset : ℕ) (op : Op) (next : CopyState)
    → shape_of (after_hit cache local offset op next) ≡ shape_of cache
shape-hit cache local offset op next =
    let held = array_copy cache local in
    let copy : CacheCopy = record held { block = performed_on held.block offset op; state = next } in
    let array = with_copy cache.array local copy in
    same-array cache (array_after_use array local) (ways-kept array local _ ∙ ways-kept cache.array local _) refl

pub shape-open : (cache : CoreCacheView) (local : Local) (held : Bool) (next : CopyState) (request : Request)
    (misses : List Register) → shape_of (after_open cache local held next request misses) ≡ shape_of cache
shape-open cache local true next request misses = with-slots cache local _
shape-open cache local false next request misses = with-slots cache local _

pub shape-evict : (cache : CoreCacheView) (local : Local) → shape_of (after_evict cache local) ≡ shape_of cache
shape-evict cache local = with-slots cache local _

pub shape-replace : (cache : CoreCacheView) (local : Local) → shape_of (after_replace cache local) ≡ shape_of cache
shape-replace cache local = shape-evict (after_draw cache) (victim_for cache local)

-- ---- messages

by_test : (test : Bool) (one other cache : CoreCacheView) → shape_of one ≡ shape_of cache → shape_of other
    ≡ shape_of cache
    → shape_of (if test then one else other) ≡ shape_of cache
by_test true one other cache is_one is_other = is_one
by_test false one other cache is_one is_other = is_other

pub shape-advance : (cache : CoreCacheView) (local : Local) (next : CopyState)
    → shape_of (after_advance cache local next) ≡ shape_of cache
shape-advance cache local next =
    by_test (is_some (array_at cache.array local)) (advanced_in_array cache local next)
    (advanced_in_buffer cache local next) cache
    (by_test (is_gone next) (record cache { array = without_line_in cache.array local })
    (after_change cache local (record (array_copy cache local) { state = next })) cache
    (with-slots cache local _) (with-slots cache local _))
    (by_test (is_gone next) (record cache { buffer = without_line cache.buffer local.0 })
    (record cache { buffer = with_state cache.buffer local.0 next }) cache refl refl)

pub shape-settle : (cache : CoreCacheView) (local : Local) (copy : CacheCopy) (number : ℕ) (misses : List Register)
    → shape_of (after_settle (after_change cache local copy) local number misses) ≡ shape_of cache
shape-settle cache local copy number misses =
    let changed = after_change cache local copy in
    let targets = targets_of cache.misses local.0 in
    let now = array_copy changed local in
    let array = with_copy changed.array local (copy_after_settle targets now) in
    let taken = performed_in now.state targets in
    same-array changed (used_by taken array local)
    (used-ways taken array local ∙ ways-kept changed.array local _) (used-policy taken array local)
    ∙ with-slots cache local _
