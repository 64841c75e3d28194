-- An issue keeps the invariant.
use Rattle.std.proofs.Common.{◌^◌, ◌<◌, length}
use Rattle.std.specs.Prelude.{Result}
use Rattle.address_map.specs.declared.address.CoreId.{CoreId}
use Rattle.address_map.specs.declared.request.Request.{Request}
use Rattle.slice_answer.specs.declared.answer.Issue.{Issue}
use Rattle.slice_answer.specs.declared.answer.Refused.{Refused}
use Rattle.slice_core_theory.proofs.BlocksCalls.{faithful_issue}
use Rattle.slice_core_theory.proofs.KeptByCalls.{issue_keeps}
use Rattle.slice_core_theory.specs.Whole.{IsWhole}
use Rattle.slice_core_spec.specs.Calls.{PartsView, AfterIssue}
use Rattle.slice_core.proofs.AccountsIssue.{keeps-issue}
use Rattle.slice_core.proofs.AccountsKept.{keeps-from_sound, sound-from_keeps}
use Rattle.slice_core.proofs.Coherent.{addressed, whole}
use Rattle.slice_core.proofs.LinksSteps.{links_accesses}
use Rattle.slice_core.specs.Sound.{HasLinks, IsSound}

pub sound-issue : (old : PartsView) (core : CoreId) (request : Request) (answer : Result Issue Refused)
    (new : PartsView) → IsSound old → core.0 < length old.view.caches → new.room < 2 ^ 63 →
    AfterIssue old core request answer new → IsSound new
sound-issue old core request answer new sound known bound after =
    let outside = whole old sound in
    sound-from_keeps new
    (keeps-issue old core request answer new (keeps-from_sound old sound) known bound after)
    (issue_keeps IsWhole HasLinks links_accesses old core request answer new outside outside known sound.links after)
    (faithful_issue old core request answer new outside (addressed old sound) known sound.faithful after)
