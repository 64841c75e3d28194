-- A primary miss: the line gets a way, from which a victim leaves where none is free, and a miss register with the
-- access as its first target; and the directory is asked for the line. The core's own parts in it are `after_replace`
-- and `after_open` of `slice_core_cache` (specs/Steps.antt).
use Rattle.std.specs.Prelude.{ℕ, ◌+◌, true, List, Bool, false}
use Rattle.address_map.specs.declared.address.CoreId.{CoreId}
use Rattle.address_map.specs.declared.address.Local.{Local}
use Rattle.address_map.specs.declared.request.Request.{Request}
use Rattle.cache_table.specs.declared.state.CopyState.{CopyState}
use Rattle.mshr_file.specs.Miss.{AddsTarget, IsMissFile}
use Rattle.mshr_file.specs.declared.registers.Register.{Register}
use Rattle.slice_answer.specs.Stats.{StatsView, after_eviction, after_primary}
use Rattle.slice_answer.specs.declared.answer.Issue.TheVariants as issues
use Rattle.slice_answer.specs.declared.answer.Issue.{Issue}
use Rattle.slice_core_cache.specs.CoreCache.{array_copy}
use Rattle.slice_core_cache.specs.Steps as caches
use Rattle.slice_core_cache.specs.Steps.{victim_for}
use Rattle.slice_core_cache.specs.declared.access.Ask.TheVariants as asks
use Rattle.slice_core_cache.specs.declared.access.Ask.{Ask}
use Rattle.slice_core_cache.specs.declared.access.Placement.TheVariants as placements
use Rattle.slice_core_cache.specs.declared.access.Placement.{Placement}
use Rattle.slice_core_spec.specs.Eviction.{after_request}
use Rattle.slice_core_spec.specs.Join.{target_for}
use Rattle.slice_core_spec.specs.Parts.{PartsView, Accepts}
use Rattle.slice_core_spec.specs.View.{View, cache_at, with_cache}
use Rattle.slice_queues.specs.Ring.{with_listed}
use Rattle.slice_queues.specs.declared.message.RequestMessage.TheVariants as request_messages
use Rattle.slice_queues.specs.declared.message.RequestMessage.{RequestMessage}

abbrev pub request_of : Ask → RequestMessage
request_of asks.GetS = request_messages.GetS
request_of asks.GetM = request_messages.GetM

-- the slice in which the missed line has its way: a victim has left, and the directory was notified, where one had
-- to
abbrev pub with_way : View → CoreId → Local → Placement → View
with_way v core local placements.Victim =
    let cache = cache_at v core in
    let victim = caches.victim_for cache local in
    after_request (with_cache v core (caches.after_replace cache local)) core victim
    (caches.put_of (array_copy cache victim))
with_way v core local _ = v

abbrev pub is_held : Placement → Bool
is_held placements.Held = true
is_held _ = false

-- the access opened a miss register where its line has a way, and the directory is asked for the line
abbrev pub after_opening : View → CoreId → Request → Local → Bool → CopyState → Ask → List Register → View
after_opening v core request local held next ask misses =
    after_request
    (with_cache v core (caches.after_open (cache_at v core) local held next request misses))
    core local (request_of ask)

-- the access opened a miss register, once its line had a way
abbrev pub after_open : View → CoreId → Request → Local → Placement → CopyState → Ask → List Register → View
after_open v core request local placement next ask misses =
    after_opening (with_way v core local placement) core request local (is_held placement) next ask misses

-- what is counted of a miss that opened a register: its victim is an eviction
abbrev pub opened_stats : StatsView → CoreId → Placement → StatsView
opened_stats stats core placements.Victim = after_primary (after_eviction stats core) core
opened_stats stats core _ = after_primary stats core

-- the ring once a register was opened: a victim's line was sent to where one had to leave, and then the line itself
abbrev pub opened_ring : PartsView → CoreId → Local → Placement → List ℕ
opened_ring p core local placements.Victim =
    with_listed (with_listed p.ring (victim_for (cache_at p.view core) local).0) local.0
opened_ring p core local _ = with_listed p.ring local.0

-- What a primary miss returns and leaves: how many of the core's requests were accepted before it; a register whose one
-- target is the access, one primary miss more of the core, and the lines that were sent to in the ring.
abbrev pub AfterPrimaryMiss : PartsView → CoreId → Request → Local → Placement → CopyState → Ask → Issue → PartsView →
    Type 0
AfterPrimaryMiss old core request local placement next ask answer new =
    (misses : List Register)
    × AddsTarget (cache_at old.view core).misses misses local.0 (target_for old core request)
    × IsMissFile misses
    × Accepts old (after_open old.view core request local placement next ask misses)
    (opened_stats old.stats core placement)
    (old.pending + 1) (opened_ring old core local placement)
    (issues.Pending (cache_at old.view core).accepted) answer new
