-- What is to be done with a request, as a function of the state.
use Rattle.std.specs.Prelude.{◌==◌, ◌&&◌, nat_lt, Bool, true, false, not, if◌then◌else◌, Option, Some, None}
use Rattle.std.specs.List.{list_any}
use Rattle.address_map.specs.Locator.{is_past, local_at}
use Rattle.address_map.specs.Place.{line_of}
use Rattle.address_map.specs.declared.address.CoreId.{CoreId}
use Rattle.address_map.specs.declared.address.Local.{Local}
use Rattle.address_map.specs.declared.address.WordAddr.{WordAddr}
use Rattle.address_map.specs.declared.request.Op.{Op}
use Rattle.address_map.specs.declared.request.Op.TheVariants as ops
use Rattle.address_map.specs.declared.request.Request.{Request}
use Rattle.slice_answer.specs.declared.answer.Refused.TheVariants as refusals
use Rattle.slice_core_cache.specs.Access.{access_of}
use Rattle.slice_core_cache.specs.CoreCache.{tag_at}
use Rattle.slice_core_cache.specs.Tags.{is_free}
use Rattle.slice_core_spec.specs.View.{View, cache_at}
use Rattle.slice_core_spec.specs.declared.decision.Decision.{Decision}
use Rattle.slice_core_spec.specs.declared.decision.Decision.TheVariants as decisions

-- a store or a compare-exchange, which a counter refuses
abbrev pub overwrites : Op → Bool
overwrites (ops.Store new) = true
overwrites (ops.Cas expect new) = true
overwrites _ = false

-- A counter is a configured word to which stores and compare-exchanges are refused.
abbrev pub is_counter : View → WordAddr → Bool
is_counter v word = list_any (λ counter. counter.0 == word.0) v.counters

-- a request for a word of the slice: its tag is judged, then what it does to a counter, and then the access itself
abbrev pub decision_at : View → CoreId → Request → Local → Decision
decision_at v core request local =
    if not (nat_lt request.tag 64) then decisions.Refuse refusals.TagRange
    else if not (is_free (tag_at (cache_at v core) request.tag)) then decisions.Refuse refusals.TagBusy
    else if overwrites request.op && is_counter v request.word then decisions.Refuse refusals.CounterStore
    else decisions.Access local (access_of (cache_at v core) local request.tag request.op)

-- A request, in the order in which it is judged: its word must be of the memory, and of this slice.
abbrev pub decision_of : View → CoreId → Request → Decision
decision_of v core request =
    if is_past v.lines request.word then decisions.Refuse refusals.OutOfRange
    else by_line (local_at v.lines (line_of request.word).0)
  where
    by_line : Option Local → Decision
    by_line None = decisions.Refuse refusals.WrongSlice
    by_line (Some local) = decision_at v core request local
