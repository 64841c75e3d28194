-- A hit: the core's copy allows the access, so it is performed at once. The core's own part in it is `after_hit` of
-- `slice_core_cache` (specs/Steps.antt): the block with the access performed, the copy's next state, and a use of the
-- line.
use Rattle.std.specs.Prelude.{[], length, Bool, ◌∷◌, ◌++◌, slice_set}
use Rattle.address_map.specs.Place.{offset_of}
use Rattle.address_map.specs.declared.address.CoreId.{CoreId}
use Rattle.address_map.specs.declared.address.Local.{Local}
use Rattle.address_map.specs.declared.request.Request.{Request}
use Rattle.cache_table.specs.declared.state.CopyState.{CopyState}
use Rattle.slice_answer.specs.Stats.{after_hit as hit_counted}
use Rattle.slice_answer.specs.declared.answer.Issue.TheVariants as issues
use Rattle.slice_answer.specs.declared.answer.Issue.{Issue}
use Rattle.slice_core_cache.specs.Copy.{word_at}
use Rattle.slice_core_cache.specs.CoreCache.{array_copy}
use Rattle.slice_core_cache.specs.Steps as caches
use Rattle.slice_core_spec.specs.Parts.{PartsView, Accepts}
use Rattle.slice_core_spec.specs.View.{View, cache_at}
use Rattle.slice_log.specs.Op.{reply_of}

-- the access was performed on the core's copy, and is logged
abbrev pub after_hit : View → CoreId → Request → Local → CopyState → View
after_hit v core request local next =
    let cache = cache_at v core in
    let offset = (offset_of request.word).0 in
    record v {
      caches = slice_set v.caches core.0 (caches.after_hit cache local offset request.op next);
      log = v.log ++ record {
        op = request.op;
        word = request.word;
        seq = cache.accepted;
        reply = reply_of request.op (word_at (array_copy cache local).block offset);
        since = length v.log;
        core = core;
        tag = request.tag;
      } ∷ [];
    }

-- What a hit returns and leaves: its entry's number, the entry at the end of the log, and one hit more of the core. The
-- hit is silent where it made an exclusive copy a modified one.
abbrev pub AfterHit : PartsView → CoreId → Request → Local → CopyState → Bool → Issue → PartsView → Type 0
AfterHit old core request local next silent answer new =
    Accepts old (after_hit old.view core request local next) (hit_counted old.stats core silent) old.pending
    old.ring (issues.Done (length old.view.log)) answer new
