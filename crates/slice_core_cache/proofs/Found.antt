-- The copy of a line, and of every other line, after each step of a core; and each step keeps copies where they belong.
use Rattle.std.proofs.Common.{◌≡◌, ◌≢◌, ℕ, ◌≤◌, Bool, true, false, List, [], ◌∷◌, Option, Some, None, IsSome, is_some}
use Rattle.std.proofs.Common.{unwrap_or, option_map, IfSome, IsSomeAnd, if◌then◌else◌, get_or, replicate, arith, refl}
use Rattle.std.proofs.Common.{sym, ◌∙◌, ap, subst, inl, inr, ◌⊎◌}
use Rattle.std.proofs.lemmas.Bool.{cases_lt}
use Rattle.std.proofs.lemmas.List.{get_or_past, get_or-replicate, length-replicate}
use Rattle.std.specs.Int.{IsPowerOfTwo}
use Rattle.address_map.specs.declared.address.Local.{Local}
use Rattle.address_map.specs.declared.config.Config.{Config}
use Rattle.address_map.specs.declared.config.PolicyKind.{PolicyKind}
use Rattle.address_map.specs.declared.request.Op.{Op}
use Rattle.address_map.specs.declared.request.Request.{Request}
use Rattle.cache_array.specs.Array.{ArrayView, held_at as array_at, IsArray, HasWay, set_index}
use Rattle.cache_array.specs.Set.{SetView, empty_set, value_in}
use Rattle.cache_array.specs.Policy.{moves_of}
use Rattle.cache_array.proofs.Held.{written_held, written_other, written_sound, used_held, used_sound, inserted_held}
use Rattle.cache_array.proofs.Held.{inserted_other, inserted_sound, removed_held, removed_other, removed_sound}
use Rattle.cache_table.specs.CopyState.{is_leaving}
use Rattle.cache_table.specs.Row.{row_of}
use Rattle.cache_table.specs.declared.row.CacheEvent.TheVariants as cache_events
use Rattle.cache_table.specs.declared.state.CopyState.{CopyState}
use Rattle.cache_table.specs.declared.state.CopyState.TheVariants as copy_states
use Rattle.mshr_file.specs.Miss.{Bound, targets_of}
use Rattle.mshr_file.specs.declared.registers.Register.{Register}
use Rattle.slice_core_cache.proofs.Lines.{ChangesLine, copy_here, copy_other, kept_by}
use Rattle.slice_core_cache.specs.Access.{CanLeave}
use Rattle.slice_core_cache.specs.Copy.{found_in, no_copy, missing_copy, leaving_copy, performed_on, is_gone, may_leave}
use Rattle.slice_core_cache.specs.Kept.{IsKept, stands_in_array}
use Rattle.slice_core_cache.specs.Perform.{performed_in}
use Rattle.slice_core_cache.specs.CoreCache.{CoreCacheView, copy_of, array_copy, new_cache}
use Rattle.slice_core_cache.specs.Steps.{with_copy, without_line_in, used_by, copy_after_settle, leaving_after_evict}
use Rattle.slice_core_cache.specs.Steps.{next_by, victim_for}
use Rattle.slice_core_cache.specs.Steps.{after_hit, after_open, after_evict, after_draw, after_replace, after_advance}
use Rattle.slice_core_cache.specs.Steps.{after_change, after_settle, after_hand}
use Rattle.slice_core_cache.specs.declared.copy.CacheCopy.{CacheCopy}
use Rattle.target_list.specs.Target.{no_target}
use Rattle.target_list.specs.declared.target.Target.{Target}
use Rattle.writeback_buffer.specs.Buffer.{held_at as buffer_at, in_state, with_state, without_line}
use Rattle.writeback_buffer.specs.declared.pending.Leaving.{Leaving}
use Rattle.writeback_buffer.proofs.Held.{put_held, put_other, put_sound, advanced_held, advanced_other, advanced_sound}
use Rattle.writeback_buffer.proofs.Held.{removed_held as left_held, removed_other as left_other}
use Rattle.writeback_buffer.proofs.Held.{removed_sound as left_sound}

-- ---- the array alone

some_is : {X : Type 0} (o : Option X) (d : X) → IsSome o → o ≡ Some (unwrap_or o d)
some_is None d some = absurd (cc some)
some_is (Some x) d some = refl

some_passes : {X : Type 0} (test : X → Bool) (o : Option X) → IsSomeAnd o (λ x. test x ≡ true) → IsSome o
some_passes test None passes = absurd passes
some_passes test (Some x) passes = refl

-- what passes is what is there
passes_is : {X : Type 0} (test : X → Bool) (o : Option X) (d : X) → IsSomeAnd o (λ x. test x ≡ true) →
    test (unwrap_or o d) ≡ true
passes_is test None d passes = absurd passes
passes_is test (Some x) d passes = passes

-- a use changes no value
used_by-held : (taken : List Target) (array : ArrayView CacheCopy PolicyKind) (local other : Local) → IsArray array →
    array_at (used_by taken array local) other ≡ array_at array other
used_by-held [] array local other sound = refl
used_by-held (target ∷ targets) array local other sound = used_held array local sound (moves_of array.policy) other

used_by-sound : (taken : List Target) (array : ArrayView CacheCopy PolicyKind) (local : Local) → IsArray array →
    IsArray (used_by taken array local)
used_by-sound [] array local sound = sound
used_by-sound (target ∷ targets) array local sound = used_sound array local sound (moves_of array.policy)

-- ---- the states

-- a line that may leave goes to a state in which it leaves
leaves-by_eviction : (state : CopyState) → may_leave state ≡ true →
    is_leaving (next_by state (row_of state cache_events.Eviction)) ≡ true
leaves-by_eviction copy_states.S may = cc
leaves-by_eviction _ may = cc

-- ---- steps that leave array and buffer alone

module _ (cache : CoreCacheView) where
  -- what has the same array and buffer is kept as well
  pub kept_as : (new : CoreCacheView) → IsKept cache → new.array ≡ cache.array → new.buffer ≡ cache.buffer → IsKept new
  kept_as new kept same_array same_buffer = record {
    array = rw same_array kept.array;
    buffer = rw same_buffer kept.buffer;
    apart = λ other. rw (same_array, same_buffer) (kept.apart other);
    held = λ other. rw same_array (kept.held other);
    leaving = λ other. rw same_buffer (kept.leaving other);
  }

  pub kept-after_draw : IsKept cache → IsKept (after_draw cache)
  kept-after_draw kept = kept_as (after_draw cache) kept refl refl

  pub kept-after_hand : (tag : ℕ) → IsKept cache → IsKept (after_hand cache tag)
  kept-after_hand tag kept = kept_as (after_hand cache tag) kept refl refl

-- ---- steps on a line that the array holds

module _ (cache : CoreCacheView) (local : Local) (kept : IsKept cache) (held : IsSome (array_at cache.array local))
  where
    -- the copy is the one in the array
    pub copy_of-held : copy_of cache local ≡ array_copy cache local
    copy_of-held = ap (λ o. found_in o (buffer_at cache.buffer.write_backs local.0))
        (some_is (array_at cache.array local) no_copy held)

    -- the array holds another copy of the line
    pub changes-change : (copy : CacheCopy) → ChangesLine cache (after_change cache local copy) local (Some copy) None
    changes-change copy = record {
      in_array = written_held cache.array local kept.array copy held;
      in_buffer = kept.apart local held;
      array_others = λ other apart. written_other cache.array local kept.array copy other apart;
      buffer_others = λ other apart. refl;
      array_sound = written_sound cache.array local kept.array copy held;
      buffer_sound = kept.buffer;
    }

    -- and another one that was used
    changes_used : (taken : List Target) (copy : CacheCopy) (new : CoreCacheView) →
        new.array ≡ used_by taken (with_copy cache.array local copy) local → new.buffer ≡ cache.buffer →
        ChangesLine cache new local (Some copy) None
    changes_used taken copy new array_is buffer_is =
        let change = changes-change copy in
        let array = with_copy cache.array local copy in record {
          in_array =
              ap (λ a. array_at a local) array_is
              ∙ used_by-held taken array local local change.array_sound ∙ change.in_array;
          in_buffer = ap (λ b. buffer_at b.write_backs local.0) buffer_is ∙ change.in_buffer;
          array_others =
              λ other apart. ap (λ a. array_at a other) array_is
              ∙ used_by-held taken array local other change.array_sound ∙ change.array_others other apart;
          buffer_others = λ other apart. ap (λ b. buffer_at b.write_backs other.0) buffer_is;
          array_sound = subst IsArray (sym array_is) (used_by-sound taken array local change.array_sound);
          buffer_sound = rw buffer_is kept.buffer;
        }

    -- ---- the copy is another

    pub copy_of-after_change : (copy : CacheCopy) → copy_of (after_change cache local copy) local ≡ copy
    copy_of-after_change copy = copy_here cache _ local _ _ (changes-change copy)

    pub copy_of-after_change_other : (copy : CacheCopy) (other : Local) → other.0 ≢ local.0 →
        copy_of (after_change cache local copy) other ≡ copy_of cache other
    copy_of-after_change_other copy other apart = copy_other cache _ local _ _ (changes-change copy) other apart

    pub kept-after_change : (copy : CacheCopy) → stands_in_array copy.state ≡ true →
        IsKept (after_change cache local copy)
    kept-after_change copy stands = kept_by cache _ local _ _ (changes-change copy) kept stands

    -- ---- an access was performed on it

    pub changes-hit : (offset : ℕ) (op : Op) (next : CopyState) →
        ChangesLine cache (after_hit cache local offset op next) local
        (Some (record (array_copy cache local) {
          block = performed_on (array_copy cache local).block offset op;
          state =
              next;
        })) None
    changes-hit offset op next =
        let copy : CacheCopy =
        record (array_copy cache local) { block = performed_on (array_copy cache local).block offset op; state = next } in
        changes_used (no_target ∷ []) copy (after_hit cache local offset op next) refl refl

    pub copy_of-after_hit : (offset : ℕ) (op : Op) (next : CopyState) →
        copy_of (after_hit cache local offset op next) local
        ≡ record (copy_of cache local) { block = performed_on (copy_of cache local).block offset op; state = next }
    copy_of-after_hit offset op next =
        copy_here cache _ local _ _ (changes-hit offset op next)
        ∙ ap (λ (copy : CacheCopy). record copy {
          block = performed_on copy.block offset op;
          state =
              next;
        }) (sym copy_of-held)

    pub copy_of-after_hit_other : (offset : ℕ) (op : Op) (next : CopyState) (other : Local) → other.0 ≢ local.0 →
        copy_of (after_hit cache local offset op next) other ≡ copy_of cache other
    copy_of-after_hit_other offset op next other apart =
        copy_other cache _ local _ _ (changes-hit offset op next) other apart

    -- ---- it waits, with a miss register

    pub changes-open_held : (next : CopyState) (request : Request) (misses : List Register) →
        ChangesLine cache (after_open cache local true next request misses) local
        (Some (record (array_copy cache local) { state = next; wants = 0; counted = 0 })) None
    changes-open_held next request misses =
        changes_used [] (record (array_copy cache local) { state = next; wants = 0; counted = 0 })
        (after_open cache local true next request misses) refl refl

    pub copy_of-after_open_held : (next : CopyState) (request : Request) (misses : List Register) →
        copy_of (after_open cache local true next request misses) local
        ≡ record (copy_of cache local) { state = next; wants = 0; counted = 0 }
    copy_of-after_open_held next request misses =
        copy_here cache _ local _ _ (changes-open_held next request misses)
        ∙ ap (λ (copy : CacheCopy). record copy { state = next; wants = 0; counted = 0 }) (sym copy_of-held)

    pub copy_of-after_open_held_other : (next : CopyState) (request : Request) (misses : List Register) (other : Local) →
        other.0 ≢ local.0 → copy_of (after_open cache local true next request misses) other ≡ copy_of cache other
    copy_of-after_open_held_other next request misses other apart =
        copy_other cache _ local _ _ (changes-open_held next request misses) other apart

    -- ---- it has come to its state, and what it allows was performed

    pub changes-settle : (number : ℕ) (misses : List Register) →
        ChangesLine cache (after_settle cache local number misses) local
        (Some (copy_after_settle (targets_of cache.misses local.0)
        (array_copy cache local))) None
    changes-settle number misses =
        changes_used (performed_in (array_copy cache local).state (targets_of cache.misses local.0))
        (copy_after_settle (targets_of cache.misses local.0) (array_copy cache local))
        (after_settle cache local number misses) refl refl

    pub copy_of-after_settle : (number : ℕ) (misses : List Register) →
        copy_of (after_settle cache local number misses) local
        ≡ copy_after_settle (targets_of cache.misses local.0) (copy_of cache local)
    copy_of-after_settle number misses =
        copy_here cache _ local _ _ (changes-settle number misses)
        ∙ ap (copy_after_settle (targets_of cache.misses local.0)) (sym copy_of-held)

    pub copy_of-after_settle_other : (number : ℕ) (misses : List Register) (other : Local) → other.0 ≢ local.0 →
        copy_of (after_settle cache local number misses) other ≡ copy_of cache other
    copy_of-after_settle_other number misses other apart =
        copy_other cache _ local _ _ (changes-settle number misses) other apart

-- ---- a line that comes into a free way

module _ (cache : CoreCacheView) (local : Local) (kept : IsKept cache) (absent : array_at cache.array local ≡ None)
    (stays : buffer_at cache.buffer.write_backs local.0 ≡ None) (way : HasWay cache.array local) where
  pub changes-open_free : (next : CopyState) (request : Request) (misses : List Register) →
      ChangesLine cache (after_open cache local false next request misses) local (Some (missing_copy next)) None
  changes-open_free next request misses = record {
    in_array = inserted_held cache.array local kept.array (missing_copy next) absent;
    in_buffer = stays;
    array_others = λ other apart. inserted_other cache.array local kept.array (missing_copy next) other apart;
    buffer_others = λ other apart. refl;
    array_sound = inserted_sound cache.array local kept.array (missing_copy next) absent way;
    buffer_sound = kept.buffer;
  }

  pub copy_of-after_open_free : (next : CopyState) (request : Request) (misses : List Register) →
      copy_of (after_open cache local false next request misses) local ≡ missing_copy next
  copy_of-after_open_free next request misses = copy_here cache _ local _ _ (changes-open_free next request misses)

  pub copy_of-after_open_free_other : (next : CopyState) (request : Request) (misses : List Register) (other : Local) →
      other.0 ≢ local.0 → copy_of (after_open cache local false next request misses) other ≡ copy_of cache other
  copy_of-after_open_free_other next request misses other apart =
      copy_other cache _ local _ _ (changes-open_free next request misses) other apart

-- ---- a line that leaves

module _ (cache : CoreCacheView) (local : Local) (kept : IsKept cache) (leaves : CanLeave cache local) where
  pub changes-evict : ChangesLine cache (after_evict cache local) local None
      (Some (leaving_after_evict (array_copy cache local)))
  changes-evict =
      let leaving = leaving_after_evict (array_copy cache local) in record {
        in_array = removed_held cache.array local kept.array;
        in_buffer = put_held cache.buffer local.0 leaving leaves.absent;
        array_others = λ other apart. removed_other cache.array local kept.array other apart;
        buffer_others = λ other apart. put_other cache.buffer local.0 leaving other.0 apart;
        array_sound = removed_sound cache.array local kept.array;
        buffer_sound = put_sound cache.buffer local.0 leaving kept.buffer leaves.room leaves.absent;
      }

  pub copy_of-after_evict : copy_of (after_evict cache local) local
      ≡ leaving_copy (leaving_after_evict (copy_of cache local))
  copy_of-after_evict =
      let held = some_passes (λ (copy : CacheCopy). may_leave copy.state) (array_at cache.array local) leaves.held in
      copy_here cache _ local _ _ changes-evict
      ∙ ap (λ (copy : CacheCopy). leaving_copy (leaving_after_evict copy)) (sym (copy_of-held cache local kept held))

  pub copy_of-after_evict_other : (other : Local) → other.0 ≢ local.0 →
      copy_of (after_evict cache local) other ≡ copy_of cache other
  copy_of-after_evict_other other apart = copy_other cache _ local _ _ changes-evict other apart

  pub kept-after_evict : IsKept (after_evict cache local)
  kept-after_evict =
      kept_by cache _ local _ _ changes-evict kept
      (leaves-by_eviction (array_copy cache local).state
      (passes_is (λ (copy : CacheCopy). may_leave copy.state) (array_at cache.array local) no_copy leaves.held))

-- a victim leaves for the line
module _ (cache : CoreCacheView) (local : Local) (kept : IsKept cache)
    (leaves : CanLeave cache (victim_for cache local)) where
  pub copy_of-after_replace : copy_of (after_replace cache local) (victim_for cache local)
      ≡ leaving_copy (leaving_after_evict (copy_of cache (victim_for cache local)))
  copy_of-after_replace =
      copy_of-after_evict (after_draw cache) (victim_for cache local) (kept-after_draw cache kept)
      (record { held = leaves.held; room = leaves.room; absent = leaves.absent })

  pub copy_of-after_replace_other : (other : Local) → other.0 ≢ (victim_for cache local).0 →
      copy_of (after_replace cache local) other ≡ copy_of cache other
  copy_of-after_replace_other other apart =
      copy_of-after_evict_other (after_draw cache) (victim_for cache local) (kept-after_draw cache kept)
      (record { held = leaves.held; room = leaves.room; absent = leaves.absent }) other apart

  pub kept-after_replace : IsKept (after_replace cache local)
  kept-after_replace =
      kept-after_evict (after_draw cache) (victim_for cache local) (kept-after_draw cache kept)
      (record { held = leaves.held; room = leaves.room; absent = leaves.absent })

-- ---- a copy that goes to its next state, wherever it is

-- the copy in this state
abbrev pub moved_to : CopyState → CacheCopy → CacheCopy
moved_to state copy = record copy { state = state }

-- what is left of a copy in the array, and of one that leaves
abbrev pub advanced_copy : CopyState → Option CacheCopy → Option CacheCopy
advanced_copy next copy = if is_gone next then None else option_map (moved_to next) copy

abbrev pub advanced_leaving : CopyState → Option Leaving → Option Leaving
advanced_leaving next leaving = if is_gone next then None else option_map (in_state next) leaving

module _ (cache : CoreCacheView) (local : Local) (kept : IsKept cache) where
  pub changes-advance : (next : CopyState) →
      ChangesLine cache (after_advance cache local next) local
      (advanced_copy next (array_at cache.array local))
      (advanced_leaving next (buffer_at cache.buffer.write_backs local.0))
  changes-advance next = by (array_at cache.array local) refl (is_gone next)
    where
      -- the core, where the array holds the line or not, and where nothing is left of the copy or something is
      new : Option CacheCopy → Bool → CoreCacheView
      new copy gone =
          if is_some copy
          then (if gone then record cache { array = without_line_in cache.array local }
          else record cache { array = with_copy cache.array local (record (array_copy cache local) { state = next }) })
          else (if gone then record cache { buffer = without_line cache.buffer local.0 }
          else record cache { buffer = with_state cache.buffer local.0 next })

      by : (copy : Option CacheCopy) → array_at cache.array local ≡ copy → (gone : Bool) →
          ChangesLine cache (new copy gone) local
          (if gone then None else option_map (moved_to next) copy)
          (if gone then None else option_map (in_state next) (buffer_at cache.buffer.write_backs local.0))
      by (Some copy) is true = record {
        in_array = removed_held cache.array local kept.array;
        in_buffer = kept.apart local (ap is_some is);
        array_others = λ other apart. removed_other cache.array local kept.array other apart;
        buffer_others = λ other apart. refl;
        array_sound = removed_sound cache.array local kept.array;
        buffer_sound = kept.buffer;
      }
      by (Some copy) is false =
          let held : IsSome (array_at cache.array local) = ap is_some is in
          let none = kept.apart local held in
          let next_copy : CacheCopy = record (array_copy cache local) { state = next } in
          let same : next_copy ≡ record copy { state = next } =
          ap (λ o. record (unwrap_or o no_copy) { state = next }) is in
          let change = changes-change cache local kept held next_copy in record {
            in_array = change.in_array ∙ ap Some same;
            in_buffer = none ∙ sym (ap (option_map (in_state next)) none);
            array_others = change.array_others;
            buffer_others = change.buffer_others;
            array_sound = change.array_sound;
            buffer_sound = change.buffer_sound;
          }
      by None is true = record {
        in_array = is;
        in_buffer = left_held cache.buffer local.0;
        array_others = λ other apart. refl;
        buffer_others = λ other apart. left_other cache.buffer local.0 other.0 apart;
        array_sound = kept.array;
        buffer_sound = left_sound cache.buffer local.0 kept.buffer;
      }
      by None is false = record {
        in_array = is;
        in_buffer = advanced_held cache.buffer local.0 next;
        array_others = λ other apart. refl;
        buffer_others = λ other apart. advanced_other cache.buffer local.0 next other.0 apart;
        array_sound = kept.array;
        buffer_sound = advanced_sound cache.buffer local.0 next kept.buffer;
      }

  pub copy_of-after_advance : (next : CopyState) →
      IsSome (array_at cache.array local) ⊎ IsSome (buffer_at cache.buffer.write_backs local.0) →
      copy_of (after_advance cache local next) local
      ≡ (if is_gone next then no_copy else record (copy_of cache local) { state = next })
  copy_of-after_advance next stands =
      copy_here cache _ local _ _ (changes-advance next)
      ∙ found (array_at cache.array local) (buffer_at cache.buffer.write_backs local.0) stands (is_gone next)
    where
      found : (copy : Option CacheCopy) (leaving : Option Leaving) → IsSome copy ⊎ IsSome leaving → (gone : Bool) →
          found_in (if gone then None else option_map (moved_to next) copy)
          (if gone then None else option_map (in_state next) leaving)
          ≡ (if gone then no_copy else record (found_in copy leaving) { state = next })
      found copy leaving stands true = refl
      found (Some copy) leaving stands false = refl
      found None (Some leaving) stands false = refl
      found None None (inl some) false = absurd (cc some)
      found None None (inr some) false = absurd (cc some)

  pub copy_of-after_advance_other : (next : CopyState) (other : Local) → other.0 ≢ local.0 →
      copy_of (after_advance cache local next) other ≡ copy_of cache other
  copy_of-after_advance_other next other apart = copy_other cache _ local _ _ (changes-advance next) other apart

-- ---- a core that has asked for nothing

no_slots : (sets ways index : ℕ) →
    (get_or (replicate sets (empty_set {V = CacheCopy} ways)) index (empty_set 0)).slots ≡ []
no_slots sets ways index =
    elim (cases_lt index sets) [
      | inl within ↦
          ap (λ (s : SetView CacheCopy). s.slots) (get_or-replicate sets index (empty_set ways) (empty_set 0) within)
      | inr past ↦
          let long = length-replicate sets (empty_set {V = CacheCopy} ways) in
          ap (λ (s : SetView CacheCopy). s.slots)
          (get_or_past (replicate sets (empty_set ways)) index (empty_set 0) (omega (arith, long, past)))
    ]

pub kept-new : (config : Config) (bound : Bound) (slice core : ℕ) → IsPowerOfTwo config.sets → config.writebacks ≤ 16 →
    IsKept (new_cache config bound slice core)
kept-new config bound slice core power few =
    let none = no_slots config.sets config.ways in
    let long = length-replicate config.sets (empty_set {V = CacheCopy} config.ways) in record {
      array = record {
        power = rw long power;
        each = λ index within.
            let empty = none index in record {
              its_own = rw empty (λ i line before. absurd (omega (arith, before)));
              distinct = rw empty (λ i j line before later. absurd (omega (arith, later)));
              few = rw empty (omega arith);
            };
      };
      buffer = record {
        once = λ i j d before later. absurd (omega (arith, later));
        fits = omega arith;
        small = few;
      };
      apart = λ local held. refl;
      held = λ local.
          subst (λ slots. IfSome (value_in slots local) (λ copy. stands_in_array copy.state ≡ true))
          (sym (none (set_index (new_cache config bound slice core).array local))) tt;
      leaving = λ local. tt;
    }

-- and it holds nothing
pub copy_of-new : (config : Config) (bound : Bound) (slice core : ℕ) (local : Local) →
    copy_of (new_cache config bound slice core) local ≡ no_copy
copy_of-new config bound slice core local =
    ap (λ slots. found_in (value_in slots local) None)
    (no_slots config.sets config.ways (set_index (new_cache config bound slice core).array local))
