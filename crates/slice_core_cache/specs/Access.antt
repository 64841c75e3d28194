-- What an access of a core to a line does, as a function of what the core has: it joins, hits, opens a miss register or
-- stalls.
use Rattle.std.specs.Prelude.{◌≡◌, ℕ, ◌<◌, nat_lt, Bool, true, false, not, if◌then◌else◌, length, Option, Some, None}
use Rattle.std.specs.Prelude.{is_some, position, IsSome, IsSomeAnd}
use Rattle.std.specs.List.{list_any}
use Rattle.address_map.specs.declared.address.Local.{Local}
use Rattle.address_map.specs.declared.request.Op.{Op}
use Rattle.address_map.specs.declared.request.Op.TheVariants as ops
use Rattle.cache_array.specs.Array.{held_at as array_at, slots_at, set_of, HasWay}
use Rattle.cache_array.specs.Policy.{choice_of}
use Rattle.cache_array.specs.Set.{holds}
use Rattle.cache_array.specs.Victim.{flags_of, line_in}
use Rattle.cache_table.specs.Row.{row_of}
use Rattle.cache_table.specs.declared.row.CacheEvent.{CacheEvent}
use Rattle.cache_table.specs.declared.row.CacheEvent.TheVariants as cache_events
use Rattle.cache_table.specs.declared.row.CacheSends.TheVariants as cache_sends
use Rattle.cache_table.specs.declared.row.Row.{Row}
use Rattle.cache_table.specs.declared.row.Row.TheVariants as rows
use Rattle.cache_table.specs.declared.state.CopyState.{CopyState}
use Rattle.cache_table.specs.declared.state.CopyState.TheVariants as copy_states
use Rattle.mshr_file.specs.Miss.{has_miss, can_join, can_open, admission_of}
use Rattle.mshr_file.specs.declared.admission.Admission.{Admission}
use Rattle.mshr_file.specs.declared.admission.Admission.TheVariants as admissions
use Rattle.slice_answer.specs.declared.answer.Evicted.{Evicted}
use Rattle.slice_answer.specs.declared.answer.Evicted.TheVariants as evictions
use Rattle.slice_answer.specs.declared.answer.Stall.TheVariants as stalls
use Rattle.slice_core_cache.specs.Copy.{may_leave}
use Rattle.slice_core_cache.specs.CoreCache.{CoreCacheView, way_of}
use Rattle.slice_core_cache.specs.declared.access.AccessKind.{AccessKind}
use Rattle.slice_core_cache.specs.declared.access.AccessKind.TheVariants as access_kinds
use Rattle.slice_core_cache.specs.declared.access.Ask.{Ask}
use Rattle.slice_core_cache.specs.declared.access.Ask.TheVariants as asks
use Rattle.slice_core_cache.specs.declared.access.Placement.{Placement}
use Rattle.slice_core_cache.specs.declared.access.Placement.TheVariants as placements
use Rattle.slice_core_cache.specs.declared.copy.CacheCopy.{CacheCopy}
use Rattle.writeback_buffer.specs.Buffer.{held_at as buffer_at}

-- the event of the cache's table that an access is
abbrev pub event_of : Op → CacheEvent
event_of ops.Load = cache_events.Load
event_of _ = cache_events.Write

-- the line's set has room for one more line
abbrev pub has_way : CoreCacheView → Local → Bool
has_way cache local = nat_lt (length (slots_at cache.array local)) (set_of cache.array local).ways

-- some line of the line's set may be evicted
abbrev pub has_victim : CoreCacheView → Local → Bool
has_victim cache local = list_any (λ slot. may_leave slot.value.state) (slots_at cache.array local)

-- the buffer takes another line
abbrev pub has_buffer_room : CoreCacheView → Bool
has_buffer_room cache = nat_lt (length cache.buffer.write_backs) cache.buffer.capacity

-- where the copy of a line that isn't held is placed: in a free way, or in that of a victim
abbrev pub in_way : CoreCacheView → Local → CopyState → Ask → AccessKind
in_way cache local next ask =
    if has_way cache local then access_kinds.PrimaryMiss next ask placements.Free
    else if not (has_victim cache local) then access_kinds.Stall stalls.NoWay
    else if not (has_buffer_room cache) then access_kinds.Stall stalls.WriteBackFull
    else access_kinds.PrimaryMiss next ask placements.Victim

-- a write to an exclusive copy is silent: no message is sent
abbrev pub is_silent : CopyState → CopyState → Bool
is_silent copy_states.E copy_states.M = true
is_silent _ _ = false

-- a miss needs a register that can be opened
abbrev pub with_register : Bool → AccessKind → AccessKind
with_register room access = if room then access else access_kinds.Stall stalls.NoRegister

-- what the row of the cache's table asks of a copy that is held; one that waits has a register, and never comes here
abbrev pub held_by : CoreCacheView → Local → Bool → CopyState → Row → AccessKind
held_by cache local room state (rows.Go next cache_sends.Nothing) =
    access_kinds.Hit (way_of cache local) next (is_silent state next)
held_by cache local room state (rows.Go next cache_sends.GetS) =
    with_register room (access_kinds.PrimaryMiss next asks.GetS placements.Held)
held_by cache local room state (rows.Go next cache_sends.GetM) =
    with_register room (access_kinds.PrimaryMiss next asks.GetM placements.Held)
held_by cache local room state _ = access_kinds.Stall stalls.NoTarget

-- what the row of the cache's table asks for where there is no copy: every access is a miss
abbrev pub absent_by : CoreCacheView → Local → Bool → Row → AccessKind
absent_by cache local room (rows.Go next cache_sends.GetS) = with_register room (in_way cache local next asks.GetS)
absent_by cache local room (rows.Go next cache_sends.GetM) = with_register room (in_way cache local next asks.GetM)
absent_by cache local room _ = access_kinds.Stall stalls.NoTarget

-- an access to a line that no access waits for: its copy is in the array, or leaves, or there is none
abbrev pub alone_of : CoreCacheView → Local → Bool → Op → AccessKind
alone_of cache local room op = by_copy (array_at cache.array local)
  where
    by_copy : Option CacheCopy → AccessKind
    by_copy (Some copy) = held_by cache local room copy.state (row_of copy.state (event_of op))
    by_copy None =
        if is_some (buffer_at cache.buffer.write_backs local.0) then access_kinds.Stall stalls.WriteBackBusy
        else absent_by cache local room (row_of copy_states.I (event_of op))

-- what a miss file admits, and what follows
abbrev pub by_admission : CoreCacheView → Local → Op → Admission → AccessKind
by_admission cache local op admissions.Join = access_kinds.SecondaryMiss
by_admission cache local op admissions.NoTarget = access_kinds.Stall stalls.NoTarget
by_admission cache local op admissions.Open = alone_of cache local true op
by_admission cache local op admissions.NoRegister = alone_of cache local false op

-- An access, in the order in which it is judged: the line's register first, then its copy.
abbrev pub access_of : CoreCacheView → Local → ℕ → Op → AccessKind
access_of cache local tag op = by_admission cache local op (admission_of cache.bound cache.misses local.0 tag)

-- the line that is evicted for another of its set, where the policy's word is this one
abbrev pub victim_of : CoreCacheView → Local → ℕ → Option Local
victim_of cache local word =
    line_in (slots_at cache.array local)
    (choice_of cache.array.policy (flags_of (λ copy. may_leave copy.state) (slots_at cache.array local)) word)

-- what an eviction returns: a line that leaves already, or is waited for, is busy
abbrev pub evicted_of : CoreCacheView → Local → Evicted
evicted_of cache local =
    if has_miss cache.misses local.0 then evictions.Busy
    else if is_some (buffer_at cache.buffer.write_backs local.0) then evictions.Busy
    else by_copy (array_at cache.array local)
  where
    by_copy : Option CacheCopy → Evicted
    by_copy None = evictions.NotHeld
    by_copy (Some copy) =
        if not (may_leave copy.state) then evictions.Busy
        else if not (has_buffer_room cache) then evictions.WriteBackFull
        else evictions.Evicting

-- the line's copy can leave: the array holds it, it waits for nothing, and the buffer has room and doesn't hold it
pub record CanLeave (cache : CoreCacheView) (local : Local) : Type 0 where
  pub held : IsSomeAnd (array_at cache.array local) (λ copy. may_leave copy.state ≡ true)
  pub room : length cache.buffer.write_backs < cache.buffer.capacity
  pub absent : buffer_at cache.buffer.write_backs local.0 ≡ None

-- a line that is missed can be placed where it is to be
abbrev pub CanStand : CoreCacheView → Local → Bool → Type 0
CanStand cache local true = IsSome (array_at cache.array local)
CanStand cache local false = (array_at cache.array local ≡ None) × HasWay cache.array local

-- a copy in this state asks for nothing, and nothing is asked of the directory for it
abbrev pub is_idle : CopyState → Bool
is_idle copy_states.I = true
is_idle copy_states.S = true
is_idle copy_states.M = true
is_idle copy_states.E = true
is_idle _ = false

-- a victim can leave for the line: the core has no copy of the line, its set has a line that may leave, and the
-- buffer has room
pub record CanReplace (cache : CoreCacheView) (local : Local) : Type 0 where
  pub absent : array_at cache.array local ≡ None
  pub stays : buffer_at cache.buffer.write_backs local.0 ≡ None
  pub victim : has_victim cache local ≡ true
  pub room : length cache.buffer.write_backs < cache.buffer.capacity

-- what is known of the way that a miss takes
abbrev pub HasWayFor : CoreCacheView → Local → Placement → Type 0
HasWayFor cache local placements.Held = IsSomeAnd (array_at cache.array local) (λ copy. is_idle copy.state ≡ true)
HasWayFor cache local placements.Free =
    (array_at cache.array local ≡ None) × (buffer_at cache.buffer.write_backs local.0 ≡ None) × HasWay cache.array local
HasWayFor cache local placements.Victim = CanReplace cache local

-- what is known of an access to a line without a register, where one can be opened or not
abbrev pub IsAlone : CoreCacheView → Local → Bool → AccessKind → Type 0
IsAlone cache local room access_kinds.SecondaryMiss = ⊥
IsAlone cache local room (access_kinds.Hit way next silent) =
    position (holds local) (slots_at cache.array local) ≡ Some way
IsAlone cache local room (access_kinds.PrimaryMiss next ask placement) = (room ≡ true) × HasWayFor cache local placement
IsAlone cache local room (access_kinds.Stall stall) = Unit {0}

-- what is known of an access that isn't put off
abbrev pub IsWithin : CoreCacheView → Local → ℕ → AccessKind → Type 0
IsWithin cache local tag access_kinds.SecondaryMiss =
    (has_miss cache.misses local.0 ≡ true) × (can_join cache.bound cache.misses local.0 tag ≡ true)
IsWithin cache local tag (access_kinds.Hit way next silent) =
    position (holds local) (slots_at cache.array local) ≡ Some way
IsWithin cache local tag (access_kinds.PrimaryMiss next ask placement) =
    (has_miss cache.misses local.0 ≡ false) × (can_open cache.bound cache.misses tag ≡ true)
    × HasWayFor cache local placement
IsWithin cache local tag (access_kinds.Stall stall) = Unit {0}
