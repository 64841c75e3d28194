-- An access that was judged is by the row of the core's copy.
use Rattle.std.proofs.Common.{◌≡◌, ℕ, Bool, true, false, not, if◌then◌else◌, length, Option, Some, None, IsSome}
use Rattle.std.proofs.Common.{is_some, refl, ap, subst}
use Rattle.std.proofs.lemmas.Bool.{ltb-true}
use Rattle.address_map.specs.declared.address.Local.{Local}
use Rattle.address_map.specs.declared.request.Op.{Op}
use Rattle.cache_array.specs.Array.{held_at as array_at, set_of, slots_at}
use Rattle.cache_table.specs.Row.{row_of}
use Rattle.cache_table.specs.declared.row.CacheSends.TheVariants as cache_sends
use Rattle.cache_table.specs.declared.row.Row.{Row}
use Rattle.cache_table.specs.declared.row.Row.TheVariants as rows
use Rattle.cache_table.specs.declared.state.CopyState.{CopyState}
use Rattle.cache_table.specs.declared.state.CopyState.TheVariants as copy_states
use Rattle.mshr_file.specs.Miss.{can_join, can_open, has_miss}
use Rattle.mshr_file.specs.declared.admission.Admission.TheVariants as admissions
use Rattle.slice_answer.specs.declared.answer.Stall.TheVariants as stalls
use Rattle.slice_core_cache.specs.Access.{absent_by, access_of, alone_of, by_admission, event_of, has_buffer_room}
use Rattle.slice_core_cache.specs.Access.{has_victim}
use Rattle.slice_core_cache.specs.Access.{has_way, held_by, in_way, with_register}
use Rattle.slice_core_cache.specs.Copy.{found_in}
use Rattle.slice_core_cache.specs.CoreCache.{CoreCacheView, state_of}
use Rattle.slice_core_cache.specs.declared.access.AccessKind.{AccessKind}
use Rattle.slice_core_cache.specs.declared.access.AccessKind.TheVariants as access_kinds
use Rattle.slice_core_cache.specs.declared.access.Ask.{Ask}
use Rattle.slice_core_cache.specs.declared.access.Ask.TheVariants as asks
use Rattle.slice_core_cache.specs.declared.access.Placement.TheVariants as placements
use Rattle.slice_core_cache.specs.declared.copy.CacheCopy.{CacheCopy}
use Rattle.slice_core_theory.proofs.Accesses.{HasPlaceFor, sends_for}
use Rattle.writeback_buffer.specs.Buffer.{held_at as buffer_at}
use Rattle.writeback_buffer.specs.declared.pending.Leaving.{Leaving}

-- What an access says of the row for a copy in this state: a hit sends nothing, and is to a copy that the array holds;
-- a miss asks for the line, and has its way. One that joins finds a register.
abbrev pub IsJudged : CoreCacheView → Local → CopyState → Op → AccessKind → Type 0
IsJudged cache local state op (access_kinds.Hit way next silent) =
    IsSome (array_at cache.array local) × (row_of state (event_of op) ≡ rows.Go next cache_sends.Nothing)
IsJudged cache local state op (access_kinds.PrimaryMiss next ask placement) =
    (row_of state (event_of op) ≡ rows.Go next (sends_for ask)) × HasPlaceFor cache local placement
IsJudged cache local state op access_kinds.SecondaryMiss = has_miss cache.misses local.0 ≡ true
IsJudged cache local state op (access_kinds.Stall stall) = Unit {0}

module _ (cache : CoreCacheView) (local : Local) (state : CopyState) (op : Op) where
  judged-register : (room : Bool) (access : AccessKind) → IsJudged cache local state op access
      → IsJudged cache local state op (with_register room access)
  judged-register true access is = is
  judged-register false access is = tt

  judged-way : (next : CopyState) (ask : Ask) → array_at cache.array local ≡ None
      → buffer_at cache.buffer.write_backs local.0 ≡ None → row_of state (event_of op) ≡ rows.Go next (sends_for ask)
      → IsJudged cache local state op (in_way cache local next ask)
  judged-way next ask absent stays is =
      by (has_way cache local) refl (has_victim cache local) refl (has_buffer_room cache) refl
    where
      by : (way : Bool) → has_way cache local ≡ way → (victim : Bool) → has_victim cache local ≡ victim
          → (entry : Bool) → has_buffer_room cache ≡ entry
          → IsJudged cache local state op
          (if way then access_kinds.PrimaryMiss next ask placements.Free
          else if not victim then access_kinds.Stall stalls.NoWay
          else if not entry then access_kinds.Stall stalls.WriteBackFull
          else access_kinds.PrimaryMiss next ask placements.Victim)
      by true free victim some entry room =
          (is, (absent, stays, ltb-true (length (slots_at cache.array local)) (set_of cache.array local).ways free))
      by false free false some entry room = tt
      by false free true some false room = tt
      by false free true some true room = (
        is,
        record {
          absent = absent;
          stays = stays;
          victim = some;
          room = ltb-true (length cache.buffer.write_backs) cache.buffer.capacity room;
        },
      )

  judged-held : (room : Bool) (row : Row) → IsSome (array_at cache.array local) → row_of state (event_of op) ≡ row
      → IsJudged cache local state op (held_by cache local room state row)
  judged-held room (rows.Go next cache_sends.Nothing) held is = (held, is)
  judged-held room (rows.Go next cache_sends.GetS) held is =
      judged-register room (access_kinds.PrimaryMiss next asks.GetS placements.Held) (is, held)
  judged-held room (rows.Go next cache_sends.GetM) held is =
      judged-register room (access_kinds.PrimaryMiss next asks.GetM placements.Held) (is, held)
  judged-held room _ held is = tt

  judged-absent : (room : Bool) (row : Row) → array_at cache.array local ≡ None
      → buffer_at cache.buffer.write_backs local.0 ≡ None → row_of state (event_of op) ≡ row
      → IsJudged cache local state op (absent_by cache local room row)
  judged-absent room (rows.Go next cache_sends.GetS) absent stays is =
      judged-register room (in_way cache local next asks.GetS) (judged-way next asks.GetS absent stays is)
  judged-absent room (rows.Go next cache_sends.GetM) absent stays is =
      judged-register room (in_way cache local next asks.GetM) (judged-way next asks.GetM absent stays is)
  judged-absent room _ absent stays is = tt

-- An access to a line that no access waits for is by the row of its copy, which is in the array, or leaves, or isn't
-- there.
judged-alone : (cache : CoreCacheView) (local : Local) (room : Bool) (op : Op)
    → IsJudged cache local (state_of cache local) op (alone_of cache local room op)
judged-alone cache local room op =
    by (array_at cache.array local) refl (buffer_at cache.buffer.write_backs local.0) refl
  where
    by : (copy : Option CacheCopy) → array_at cache.array local ≡ copy → (leaving : Option Leaving)
        → buffer_at cache.buffer.write_backs local.0 ≡ leaving
        → IsJudged cache local (found_in copy leaving).state op (alone_of cache local room op)
    by (Some copy) is leaving left = rw is (judged-held cache local copy.state op room _ (ap is_some is) refl)
    by None is (Some leaving) left = rw (is, left) tt
    by None is None left = rw (is, left) (judged-absent cache local copy_states.I op room _ is left refl)

judged : (cache : CoreCacheView) (local : Local) (tag : ℕ) (op : Op)
    → IsJudged cache local (state_of cache local) op (access_of cache local tag op)
judged cache local tag op =
    by (has_miss cache.misses local.0) refl (can_join cache.bound cache.misses local.0 tag)
    (can_open cache.bound cache.misses tag)
  where
    by : (missed : Bool) → has_miss cache.misses local.0 ≡ missed → (joins opens : Bool)
        → IsJudged cache local (state_of cache local) op
        (by_admission cache local op
        (if missed then (if joins then admissions.Join else admissions.NoTarget)
        else (if opens then admissions.Open else admissions.NoRegister)))
    by true waits true opens = waits
    by true waits false opens = tt
    by false waits joins true = judged-alone cache local true op
    by false waits joins false = judged-alone cache local false op

-- So is the one that was decided.
pub is_judged : (cache : CoreCacheView) (local : Local) (tag : ℕ) (op : Op) (access : AccessKind)
    → access_of cache local tag op ≡ access → IsJudged cache local (state_of cache local) op access
is_judged cache local tag op access is =
    subst (IsJudged cache local (state_of cache local) op) is (judged cache local tag op)
