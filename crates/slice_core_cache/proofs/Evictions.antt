-- A line whose eviction returns Evicting can leave.
use Rattle.std.proofs.Common.{◌≡◌, Bool, true, false, not, Option, Some, None, is_some, if◌then◌else◌, length, refl}
use Rattle.std.proofs.lemmas.Bool.{ltb-true}
use Rattle.address_map.specs.declared.address.Local.{Local}
use Rattle.cache_array.specs.Array.{held_at as array_at}
use Rattle.mshr_file.specs.Miss.{has_miss}
use Rattle.slice_answer.specs.declared.answer.Evicted.{Evicted}
use Rattle.slice_answer.specs.declared.answer.Evicted.TheVariants as evictions
use Rattle.slice_core_cache.specs.Access.{evicted_of, has_buffer_room, CanLeave}
use Rattle.slice_core_cache.specs.Copy.{may_leave}
use Rattle.slice_core_cache.specs.CoreCache.{CoreCacheView}
use Rattle.slice_core_cache.specs.declared.copy.CacheCopy.{CacheCopy}
use Rattle.writeback_buffer.specs.Buffer.{held_at as buffer_at}
use Rattle.writeback_buffer.specs.declared.pending.Leaving.{Leaving}

pub can_leave : (cache : CoreCacheView) (local : Local) → evicted_of cache local ≡ evictions.Evicting →
    CanLeave cache local
can_leave cache local evicting =
    by (has_miss cache.misses local.0) (buffer_at cache.buffer.write_backs local.0) refl (array_at cache.array local)
    refl
    (has_buffer_room cache) refl evicting
  where
    answered : Bool → Option Leaving → Option CacheCopy → Bool → Evicted
    answered missed leaving held room =
        if missed then evictions.Busy
        else if is_some leaving then evictions.Busy
        else by_copy held
      where
        by_copy : Option CacheCopy → Evicted
        by_copy None = evictions.NotHeld
        by_copy (Some copy) =
            if not (may_leave copy.state) then evictions.Busy
            else if not room then evictions.WriteBackFull
            else evictions.Evicting

    by : (missed : Bool) (leaving : Option Leaving) → buffer_at cache.buffer.write_backs local.0 ≡ leaving
        → (held : Option CacheCopy) → array_at cache.array local ≡ held
        → (room : Bool) → has_buffer_room cache ≡ room
        → answered missed leaving held room ≡ evictions.Evicting → CanLeave cache local
    by true leaving stays held is room has e = absurd (cc e)
    by false (Some leaving) stays held is room has e = absurd (cc e)
    by false None stays None is room has e = absurd (cc e)
    by false None stays (Some copy) is room has e = may (may_leave copy.state) refl room has e
      where
        may : (leaves : Bool) → may_leave copy.state ≡ leaves → (room : Bool) → has_buffer_room cache ≡ room →
            (if not leaves then evictions.Busy else if not room then evictions.WriteBackFull else evictions.Evicting)
            ≡ evictions.Evicting → CanLeave cache local
        may false leaves room has e = absurd (cc e)
        may true leaves false has e = absurd (cc e)
        may true leaves true has e = record {
          held = rw is leaves;
          room = ltb-true (length cache.buffer.write_backs) cache.buffer.capacity has;
          absent = stays;
        }
