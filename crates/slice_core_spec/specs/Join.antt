-- A join, or secondary miss: the line has a miss register, in which the access waits with those before it. Nothing is
-- sent. The core's own part in it is `after_join` of `slice_core_cache` (specs/Steps.antt).
use Rattle.std.specs.Prelude.{◌+◌, List, length}
use Rattle.address_map.specs.Place.{offset_of}
use Rattle.address_map.specs.declared.address.CoreId.{CoreId}
use Rattle.address_map.specs.declared.address.Local.{Local}
use Rattle.address_map.specs.declared.request.Request.{Request}
use Rattle.mshr_file.specs.Miss.{AddsTarget, IsMissFile}
use Rattle.mshr_file.specs.declared.registers.Register.{Register}
use Rattle.slice_answer.specs.Stats.{after_secondary}
use Rattle.slice_answer.specs.declared.answer.Issue.TheVariants as issues
use Rattle.slice_answer.specs.declared.answer.Issue.{Issue}
use Rattle.slice_core_cache.specs.Steps as caches
use Rattle.slice_core_cache.specs.Steps.{target_of}
use Rattle.slice_core_spec.specs.Parts.{PartsView, Accepts}
use Rattle.slice_core_spec.specs.View.{View, cache_at, with_cache}
use Rattle.target_list.specs.declared.target.Target.{Target}

-- the target that an access of a core is
abbrev pub target_for : PartsView → CoreId → Request → Target
target_for p core request = target_of (cache_at p.view core) request (offset_of request.word) (length p.view.log)

-- the access is a target of the line's miss register
abbrev pub after_join : View → CoreId → Request → List Register → View
after_join v core request misses = with_cache v core (caches.after_join (cache_at v core) request misses)

-- What a join returns and leaves: how many of the core's requests were accepted before it; one target more of the line,
-- after the others, and one secondary miss more of the core.
abbrev pub AfterJoin : PartsView → CoreId → Request → Local → Issue → PartsView → Type 0
AfterJoin old core request local answer new =
    (misses : List Register)
    × AddsTarget (cache_at old.view core).misses misses local.0 (target_for old core request)
    × IsMissFile misses
    × Accepts old (after_join old.view core request misses) (after_secondary old.stats core) (old.pending + 1)
    old.ring (issues.Pending (cache_at old.view core).accepted) answer new
