-- An eviction: the core's copy of a line leaves for the write-back buffer, and a Put notifies the directory. The
-- core's own part in it is `after_evict` of `slice_core_cache` (specs/Steps.antt).
use Rattle.std.specs.Prelude.{◌≡◌, Option, Some, None}
use Rattle.address_map.specs.Locator.{local_at}
use Rattle.address_map.specs.declared.address.CoreId.{CoreId}
use Rattle.address_map.specs.declared.address.LineAddr.{LineAddr}
use Rattle.address_map.specs.declared.address.Local.{Local}
use Rattle.slice_answer.specs.Stats.{after_eviction}
use Rattle.slice_answer.specs.declared.answer.Evicted.TheVariants as evictions
use Rattle.slice_answer.specs.declared.answer.Evicted.{Evicted}
use Rattle.slice_core_cache.specs.Access.{evicted_of}
use Rattle.slice_core_cache.specs.CoreCache.{array_copy}
use Rattle.slice_core_cache.specs.Steps as caches
use Rattle.slice_core_spec.specs.Parts.{PartsView}
use Rattle.slice_core_spec.specs.View.{View, channels_at, cache_at, with_channels, with_cache}
use Rattle.slice_queues.specs.Line.{after_send}
use Rattle.slice_queues.specs.Ring.{with_listed}
use Rattle.slice_queues.specs.declared.channel.Channel.TheVariants as channels
use Rattle.slice_queues.specs.declared.message.Message.TheVariants as messages
use Rattle.slice_queues.specs.declared.message.RequestMessage.{RequestMessage}

-- a core asks the directory for a line, or gives it up
abbrev pub after_request : View → CoreId → Local → RequestMessage → View
after_request v core local message =
    with_channels v local (after_send (channels_at v local) (channels.Req core) (messages.Request message))

-- the core's copy of a line leaves, and the directory is notified
abbrev pub after_evict : View → CoreId → Local → View
after_evict v core local =
    after_request (with_cache v core (caches.after_evict (cache_at v core) local)) core local
    (caches.put_of (array_copy (cache_at v core) local))

-- What an eviction of a line of the slice leaves, by its answer. A Put is sent, so the line comes into the ring.
abbrev pub AfterEvicted : Evicted → PartsView → CoreId → Local → PartsView → Type 0
AfterEvicted evictions.Evicting old core local new =
    new
    ≡ record old {
      view = after_evict old.view core local;
      stats = after_eviction old.stats core;
      ring = with_listed old.ring local.0;
    }
AfterEvicted _ old core local new = new ≡ old

-- What an eviction returns and leaves, by the line's place: one that isn't the slice's is not held.
abbrev pub AfterEvictAt : Option Local → PartsView → CoreId → Evicted → PartsView → Type 0
AfterEvictAt None old core answer new = (answer ≡ evictions.NotHeld) × (new ≡ old)
AfterEvictAt (Some local) old core answer new =
    (answer ≡ evicted_of (cache_at old.view core) local) × AfterEvicted answer old core local new

-- What an eviction of a line returns and leaves.
abbrev pub AfterEvict : PartsView → CoreId → LineAddr → Evicted → PartsView → Type 0
AfterEvict old core line answer new = AfterEvictAt (local_at old.view.lines line.0) old core answer new
