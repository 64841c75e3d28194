-- A call changes what one core has, and so leaves what is decided of the others' accesses.
use Rattle.std.proofs.Common.{◌≡◌, ◌≢◌, ℕ, zero, suc, ◌+◌, ◌<◌, ◌≤◌, ◌⊎◌, List, [], ◌∷◌, length, replicate, get_or, Option}
use Rattle.std.proofs.Common.{Some, None, Result, Ok, Err, refl, sym, ap, ◌∙◌, subst, ⊎_elim, arith}
use Rattle.std.proofs.Common.{if◌then◌else◌}
use Rattle.std.specs.Prelude.{◌==◌, ◌&&◌, map, nat_lt, not, slice_get, slice_set}
use Rattle.std.specs.List.{list_any}
use Rattle.std.proofs.lemmas.Bool.{cases_eq, cases_lt}
use Rattle.std.proofs.lemmas.List.{get_or-set_other, get_or-set_same, get_or_past}
use Rattle.std.proofs.lemmas.Option.{get_or_from_slice_get, slice_get-get_or, slice_get_within}
use Rattle.address_map.specs.Locator.{Lines, is_past, line_at, local_at}
use Rattle.address_map.specs.Place.{line_of}
use Rattle.address_map.specs.declared.address.CoreId.{CoreId}
use Rattle.address_map.specs.declared.address.LineAddr.{LineAddr}
use Rattle.address_map.specs.declared.address.Local.{Local}
use Rattle.address_map.specs.declared.address.WordAddr.{WordAddr}
use Rattle.address_map.specs.declared.config.Config.{Config}
use Rattle.address_map.specs.declared.request.Request.{Request}
use Rattle.cache_table.specs.declared.state.CopyState.{CopyState}
use Rattle.litmus_script.specs.Issued.{IsIssued, answer_of}
use Rattle.litmus_script.specs.Machine.{IsAnswered, IsMachine, OneSlice}
use Rattle.litmus_script.specs.declared.answers.Issued.{Issued}
use Rattle.litmus_script.specs.declared.answers.Issued.TheVariants as issued_kinds
use Rattle.mshr_file.specs.declared.registers.Register.{Register}
use Rattle.slice_answer.specs.declared.answer.Delivered.{Delivered}
use Rattle.slice_answer.specs.declared.answer.Delivery.TheVariants as deliveries
use Rattle.slice_answer.specs.declared.answer.Delivery.{Delivery}
use Rattle.slice_answer.specs.declared.answer.Issue.{Issue}
use Rattle.slice_answer.specs.declared.answer.Issue.TheVariants as issues
use Rattle.slice_answer.specs.declared.answer.Refused.{Refused}
use Rattle.slice_answer.specs.declared.answer.Refused.TheVariants as refusals
use Rattle.slice_core.specs.declared.run.Call.TheVariants as slice_calls
use Rattle.slice_core.specs.declared.run.CallAnswer.TheVariants as call_answers
use Rattle.slice_core_cache.specs.Access.{access_of}
use Rattle.slice_core_cache.specs.CoreCache.{CoreCacheView, tag_at}
use Rattle.slice_core_cache.specs.Tags.{is_free}
use Rattle.slice_core_cache.specs.declared.access.AccessKind.{AccessKind}
use Rattle.slice_core_cache.specs.declared.access.AccessKind.TheVariants as access_kinds
use Rattle.slice_core_cache.specs.declared.access.Ask.{Ask}
use Rattle.slice_core_cache.specs.declared.access.Placement.{Placement}
use Rattle.slice_core_cache.specs.declared.access.Placement.TheVariants as placements
use Rattle.slice_core_cache.specs.declared.copy.CacheCopy.{CacheCopy}
use Rattle.slice_core_spec.specs.Calls.{AfterDecision}
use Rattle.slice_core_spec.specs.Calls.{PartsView, AfterAccepting, AfterAccess, AfterDelivery, AfterHand, AfterIssue}
use Rattle.slice_core_spec.specs.Calls.{AfterPlan, IsAccepted, LacksMemory, Settles, core_of, local_in}
use Rattle.slice_core_spec.specs.Decision.{decision_of, overwrites}
use Rattle.slice_core_spec.specs.Parts.{ring_lines}
use Rattle.slice_core_spec.specs.Plan.{plan_of, planned_in}
use Rattle.slice_core_spec.specs.Steps.{after_open, with_way}
use Rattle.slice_core_spec.specs.View.{View, cache_at, no_cache}
use Rattle.slice_core_exec.specs.CoreLines.{last_written_back}
use Rattle.slice_core_spec.specs.declared.decision.Decision.{Decision}
use Rattle.slice_core_spec.specs.declared.decision.Decision.TheVariants as decisions
use Rattle.slice_core_spec.specs.declared.transition.Transition.TheVariants as transitions
use Rattle.slice_core_spec.specs.declared.transition.Transition.{Transition}
use Rattle.slice_log.specs.declared.entry.Numbered.{Numbered}
use Rattle.slice_queues.specs.Pick.{channel_of, line_of as line_of_pick}
use Rattle.slice_queues.specs.declared.channel.Channel.{Channel}
use Rattle.slice_queues.specs.declared.channel.Pick.{Pick}
use Rattle.program_run.proofs.FrontCalls.{delivery-front, hand-front}
use Rattle.program_run.proofs.FrontIssue.{SentAt, issue-front, same-front}
use Rattle.program_run.specs.Front.{AreIdle, HasIdleFront, IsApart, LooksAgain, LooksBehind}
use Rattle.program_run.specs.Kept.{AreDecided, KeepsOthers}
use Rattle.program_run.specs.Run.{decided_in, decision_on, slice_of}
use Rattle.program_run.specs.declared.kept.Decided.{Decided}

-- ---- what a call leaves of the other cores

-- which lines are the slice's, its counters, and what each core but this one has are as they were
record KeepsCores (core : CoreId) (old new : View) : Type 0 where
  lines : new.lines ≡ old.lines
  counters : new.counters ≡ old.counters
  others : (other : CoreId) → other.0 ≢ core.0 → cache_at new other ≡ cache_at old other

keeps_all : (core : CoreId) (old new : View) → new ≡ old → KeepsCores core old new
keeps_all core old new is =
    subst (KeepsCores core old) (sym is) (record { lines = refl; counters = refl; others = λ other apart. refl })

keeps_then : (core : CoreId) (old middle new : View) → KeepsCores core old middle → KeepsCores core middle new
    → KeepsCores core old new
keeps_then core old middle new one two = record {
  lines = two.lines ∙ one.lines;
  counters = two.counters ∙ one.counters;
  others = λ other apart. two.others other apart ∙ one.others other apart;
}

-- the core has another part
one_changed : (core : CoreId) (old new : View) (cache : CoreCacheView) → new.lines ≡ old.lines
    → new.counters ≡ old.counters → new.caches ≡ slice_set old.caches core.0 cache → KeepsCores core old new
one_changed core old new cache lines counters caches = record {
  lines = lines;
  counters = counters;
  others = λ other apart. ap (λ (all : List CoreCacheView). get_or all other.0 no_cache) caches
      ∙ get_or-set_other old.caches core.0 other.0 cache no_cache apart;
}

-- ---- accesses

opened : (v : View) (core : CoreId) (request : Request) (local : Local) (placement : Placement) (next : CopyState)
    (ask : Ask) (misses : List Register)
    → KeepsCores core v (after_open v core request local placement next ask misses)
opened v core request local placements.Held next ask misses = one_changed core v _ _ refl refl refl
opened v core request local placements.Free next ask misses = one_changed core v _ _ refl refl refl
opened v core request local placements.Victim next ask misses =
    keeps_then core v (with_way v core local placements.Victim) _ (one_changed core v _ _ refl refl refl)
    (one_changed core (with_way v core local placements.Victim) _ _ refl refl refl)

accepted : (access : AccessKind) (old : PartsView) (core : CoreId) (request : Request) (local : Local) (answer : Issue)
    (new : PartsView) → AfterAccepting access old core request local answer new → KeepsCores core old.view new.view
accepted (access_kinds.Stall stall) old core request local answer new after =
    keeps_all core old.view new.view (ap (λ (p : PartsView). p.view) after.1)
accepted (access_kinds.Hit way next silent) old core request local answer new after =
    subst (KeepsCores core old.view) (sym (ap (λ (p : PartsView). p.view) after.1))
    (one_changed core old.view _ _ refl refl refl)
accepted access_kinds.SecondaryMiss old core request local answer new after =
    subst (KeepsCores core old.view) (sym (ap (λ (p : PartsView). p.view) after.3.1))
    (one_changed core old.view _ _ refl refl refl)
accepted (access_kinds.PrimaryMiss next ask placement) old core request local answer new after =
    subst (KeepsCores core old.view) (sym (ap (λ (p : PartsView). p.view) after.3.1))
    (opened old.view core request local placement next ask after.0)

module _ (old : PartsView) (core : CoreId) (request : Request) (answer : Result Issue Refused) (new : PartsView) where
  let_in : (local : Local) (access : AccessKind)
      → LacksMemory old answer new ⊎ IsAccepted access old core request local answer new
      → KeepsCores core old.view new.view
  let_in local access after =
      ⊎_elim (λ lacks. keeps_all core old.view new.view (ap (λ (p : PartsView). p.view) lacks.unchanged))
      (λ is. accepted access (record old { room = is.0 }) core request local is.1 new is.5) after

  accessed : (local : Local) (access : AccessKind) → AfterAccess access old core request local answer new
      → KeepsCores core old.view new.view
  accessed local (access_kinds.Stall stall) after =
      keeps_all core old.view new.view (ap (λ (p : PartsView). p.view) after.1)
  accessed local (access_kinds.Hit way next silent) after = let_in local (access_kinds.Hit way next silent) after
  accessed local access_kinds.SecondaryMiss after = let_in local access_kinds.SecondaryMiss after
  accessed local (access_kinds.PrimaryMiss next ask placement) after =
      let_in local (access_kinds.PrimaryMiss next ask placement) after

  decided : (decision : Decision)
      → AfterDecision decision old core request answer new → KeepsCores core old.view new.view
  decided (decisions.Refuse refused) after =
      keeps_all core old.view new.view (ap (λ (p : PartsView). p.view) after.1)
  decided (decisions.Access local access) after = accessed local access after

  issue_keeps : AfterIssue old core request answer new → KeepsCores core old.view new.view
  issue_keeps after = decided (decision_of old.view core request) after

-- ---- deliveries and replies

settled : (old : PartsView) (local : Local) (core : CoreId) (channel : Channel) (copy : CacheCopy) (new : PartsView)
    → Settles old local core channel copy new → KeepsCores core old.view new.view
settled old local core channel copy new after =
    subst (KeepsCores core old.view) (sym (ap (λ (p : PartsView). p.view) after.3))
    (one_changed core old.view _ _ refl refl refl)

planned : (plan : Delivery Transition) (old : PartsView) (local : Local) (channel : Channel) (answer : Delivered)
    (new : PartsView) → AfterPlan plan old local channel answer new
    → KeepsCores (core_of channel) old.view new.view
planned deliveries.Nothing old local channel answer new after =
    keeps_all (core_of channel) old.view new.view (ap (λ (p : PartsView). p.view) after.1)
planned deliveries.Blocked old local channel answer new after =
    keeps_all (core_of channel) old.view new.view (ap (λ (p : PartsView). p.view) after.1)
planned (deliveries.Broken cell) old local channel answer new after =
    keeps_all (core_of channel) old.view new.view (ap (λ (p : PartsView). p.view) after.1)
planned (deliveries.Moved (transitions.Directory step)) old local channel answer new after =
    subst (KeepsCores (core_of channel) old.view) (sym (ap (λ (p : PartsView). p.view) after.1))
    (record { lines = refl; counters = refl; others = λ other apart. refl })
planned (deliveries.Moved (transitions.Home step)) old local channel answer new after =
    subst (KeepsCores (core_of channel) old.view) (sym (ap (λ (p : PartsView). p.view) after.1))
    (record { lines = refl; counters = refl; others = λ other apart. refl })
planned (deliveries.Moved (transitions.Forwarded step)) old local channel answer new after =
    subst (KeepsCores (core_of channel) old.view) (sym (ap (λ (p : PartsView). p.view) after.1))
    (one_changed (core_of channel) old.view _ _ refl refl refl)
planned (deliveries.Moved (transitions.Fill step)) old local channel answer new after =
    settled old local (core_of channel) channel _ new after.1
planned (deliveries.Moved (transitions.Acknowledge step)) old local channel answer new after =
    settled old local (core_of channel) channel _ new after.1

module _ (old : PartsView) (pick : Pick) (answer : Delivered) (new : PartsView) where
  abbrev by_place : Option Local → Type 0
  by_place place =
      AfterPlan (planned_in old.view place (channel_of pick)) old (local_in place) (channel_of pick) answer new

  found : (place : Option Local) → by_place place → KeepsCores (core_of (channel_of pick)) old.view new.view
  found None after =
      keeps_all (core_of (channel_of pick)) old.view new.view (ap (λ (p : PartsView). p.view) after.1)
  found (Some local) after =
      planned (plan_of old.view local (channel_of pick)) old local (channel_of pick) answer new after

  delivery_keeps : AfterDelivery old pick answer new → KeepsCores (core_of (channel_of pick)) old.view new.view
  delivery_keeps after = found (local_at old.view.lines (line_of_pick pick).0) after

hand_keeps : (old : PartsView) (core : CoreId) (answer : Option Numbered) (new : PartsView)
    → AfterHand old core answer new → KeepsCores core old.view new.view
hand_keeps old core None new after =
    keeps_all core old.view new.view (ap (λ (p : PartsView). p.view) after.1)
hand_keeps old core (Some given) new after =
    subst (KeepsCores core old.view) (sym (ap (λ (p : PartsView). p.view) after.3))
    (one_changed core old.view _ _ refl refl refl)

-- ---- what is decided

module _ (request : Request) where
  -- what is decided of an access, by what it depends on
  abbrev by_line : List WordAddr → CoreCacheView → Option Local → Decision
  by_line counters cache None = decisions.Refuse refusals.WrongSlice
  by_line counters cache (Some local) =
      if not (nat_lt request.tag 64) then decisions.Refuse refusals.TagRange
      else if not (is_free (tag_at cache request.tag)) then decisions.Refuse refusals.TagBusy
      else if overwrites request.op && list_any (λ counter. counter.0 == request.word.0) counters
      then decisions.Refuse refusals.CounterStore
      else decisions.Access local (access_of cache local request.tag request.op)

  abbrev decided_by : Lines → List WordAddr → CoreCacheView → Decision
  decided_by lines counters cache =
      if is_past lines request.word then decisions.Refuse refusals.OutOfRange
      else by_line counters cache (local_at lines (line_of request.word).0)

  same_decision : (old new : View) (core : CoreId) → new.lines ≡ old.lines → new.counters ≡ old.counters
      → cache_at new core ≡ cache_at old core → decision_of new core request ≡ decision_of old core request
  same_decision old new core lines counters cache =
      ap (λ (l : Lines). decided_by l new.counters (cache_at new core)) lines
      ∙ ap (λ (words : List WordAddr). decided_by old.lines words (cache_at new core)) counters
      ∙ ap (decided_by old.lines old.counters) cache

-- ---- one slice of a machine

set-here : {X : Type 0} (xs : List X) (i : ℕ) (x y : X) → slice_get xs i ≡ Some x
    → slice_get (slice_set xs i y) i ≡ Some y
set-here [] i x y at = cc
set-here (z ∷ zs) zero x y at = refl
set-here (z ∷ zs) (suc i) x y at = set-here zs i x y at

set-elsewhere : {X : Type 0} (xs : List X) (i j : ℕ) (y : X) → j ≢ i
    → slice_get (slice_set xs i y) j ≡ slice_get xs j
set-elsewhere [] i j y other = refl
set-elsewhere (z ∷ zs) zero zero y other = absurd (other refl)
set-elsewhere (z ∷ zs) zero (suc j) y other = refl
set-elsewhere (z ∷ zs) (suc i) zero y other = refl
set-elsewhere (z ∷ zs) (suc i) (suc j) y other = set-elsewhere zs i j y (λ same. other (ap suc same))

one_slice : (config : Config) (slice : ℕ) (core : CoreId) (Goes : PartsView → PartsView → Type 0)
    (old new : List PartsView) → OneSlice slice Goes old new
    → ((before after : PartsView) → Goes before after → KeepsCores core before.view after.view)
    → KeepsOthers config core old new
one_slice config slice core Goes old new one keeps = λ other request apart.
    let at : ℕ = slice_of config request in
    let kept = keeps one.before one.after one.goes in
    let same : decision_of one.after.view other request ≡ decision_of one.before.view other request =
    same_decision request one.before.view one.after.view other kept.lines kept.counters (kept.others other apart) in
    ⊎_elim
    (λ here.
    let now : slice_get new at ≡ Some one.after =
    ap (λ (xs : List PartsView). slice_get xs at) one.others ∙ ap (slice_get (slice_set old slice one.after)) here
    ∙ set-here old slice one.before one.after one.found in
    let was : slice_get old at ≡ Some one.before = ap (slice_get old) here ∙ one.found in
    ap (λ (state : Option PartsView). decided_in state other request) now ∙ ap Some same
    ∙ sym (ap (λ (state : Option PartsView). decided_in state other request) was))
    (λ there.
    ap (λ (state : Option PartsView). decided_in state other request)
    (ap (λ (xs : List PartsView). slice_get xs at) one.others ∙ set-elsewhere old slice at one.after there))
    (cases_eq at slice)

pub issue_leaves : (config : Config) (slice : ℕ) (core : CoreId) (request : Request) (issued : Issued)
    (old new : List PartsView) → IsIssued slice core request issued old new → KeepsOthers config core old new
issue_leaves config slice core request issued old new one =
    one_slice config slice core _ old new one
    (λ before after goes. issue_keeps before core request (answer_of issued) after goes.answers.made)

pub delivery_leaves : (config : Config) (slice : ℕ) (pick : Pick) (answer : Delivered) (old new : List PartsView)
    → IsAnswered slice (slice_calls.Deliver pick) (call_answers.Deliver answer) old new
    → KeepsOthers config (core_of (channel_of pick)) old new
delivery_leaves config slice pick answer old new one =
    one_slice config slice (core_of (channel_of pick)) _ old new one
    (λ before after goes. delivery_keeps before pick answer after goes.made)

pub hand_leaves : (config : Config) (slice : ℕ) (core : CoreId) (answer : Option Numbered) (old new : List PartsView)
    → IsAnswered slice (slice_calls.Hand core) (call_answers.Hand answer) old new
    → KeepsOthers config core old new
hand_leaves config slice core answer old new one =
    one_slice config slice core _ old new one (λ before after goes. hand_keeps before core answer after goes.made)

-- ---- what was decided

none-decided : (count place : ℕ) (decided : Decided) → slice_get (replicate count None) place ≡ Some (Some decided)
    → ⊥
none-decided zero place decided is = cc
none-decided (suc count) zero decided is = cc
none-decided (suc count) (suc place) decided is = none-decided count place decided is

-- nothing was decided yet
pub begins : (config : Config) (slices : List PartsView) (count : ℕ) → AreDecided config slices (replicate count None)
begins config slices count = λ core decided is. absurd (none-decided count core decided is)

-- where nothing is kept of any core, all that is holds
pub empties : (config : Config) (slices : List PartsView) (kept : List (Option Decided))
    → ((place : ℕ) → place < length kept → slice_get kept place ≡ Some None) → AreDecided config slices kept
empties config slices kept none = λ core decided is.
    let within = slice_get_within kept core (Some decided) is in
    let clash : Some (Some decided) ≡ Some None = sym is ∙ none core within in absurd (cc clash)

-- .. and of one core more nothing is kept
pub empty_more : (kept : List (Option Decided)) (end : ℕ) → end < length kept
    → ((place : ℕ) → place < end → slice_get kept place ≡ Some None)
    → (place : ℕ) → place < end + 1 → slice_get (slice_set kept end None) place ≡ Some None
empty_more kept end within none place below =
    ⊎_elim
    (λ here.
    ap (slice_get (slice_set kept end None)) here
    ∙ set-here kept end (get_or kept end None) None (slice_get-get_or kept end None within))
    (λ there. set-elsewhere kept end place None there ∙ none place (omega (arith, below, there)))
    (cases_eq place end)

-- what was decided of one core's access is kept
pub keeps : (config : Config) (slices : List PartsView) (kept : List (Option Decided)) (core : CoreId)
    (new : Decided) → core.0 < length kept → AreDecided config slices kept
    → decision_on config slices core new.request ≡ Some new.decision
    → AreDecided config slices (slice_set kept core.0 (Some new))
keeps config slices kept core new within all holds = λ other decided is.
    ⊎_elim
    (λ here.
    let found : slice_get (slice_set kept core.0 (Some new)) core.0 ≡ Some (Some new) =
    set-here kept core.0 (get_or kept core.0 None) (Some new) (slice_get-get_or kept core.0 None within) in
    let both : Some (Some new) ≡ Some (Some decided) =
    sym found ∙ ap (slice_get (slice_set kept core.0 (Some new))) (sym here) ∙ is in
    let same : new ≡ decided = cc both in
    subst (λ (one : Decided). decision_on config slices (record { 0 = other }) one.request ≡ Some one.decision) same
    (subst (λ n. decision_on config slices (record { 0 = n }) new.request ≡ Some new.decision) (sym here) holds))
    (λ there. all other decided (sym (set-elsewhere kept core.0 other (Some new) there) ∙ is))
    (cases_eq other core.0)

module _ (config : Config) (core : CoreId) (old new : List PartsView) (kept : List (Option Decided))
    (all : AreDecided config old kept) (others : KeepsOthers config core old new) where
  other_core : (other : ℕ) (decided : Decided) → slice_get kept other ≡ Some (Some decided) → other ≢ core.0
      → decision_on config new (record { 0 = other }) decided.request ≡ Some decided.decision
  other_core other decided is apart = others (record { 0 = other }) decided.request apart ∙ all other decided is

  -- nothing was kept of a core past the last
  pub past_all : length kept ≤ core.0 → AreDecided config new kept
  past_all past = λ other decided is.
      other_core other decided is (λ same.
      let within = slice_get_within kept other (Some decided) is in absurd (omega (arith, within, same, past)))

  -- what was kept of the core isn't any more
  pub forgets : core.0 < length kept → AreDecided config new (slice_set kept core.0 None)
  forgets within = λ other decided is.
      ⊎_elim
      (λ here.
      let found : slice_get (slice_set kept core.0 None) core.0 ≡ Some None =
      set-here kept core.0 (get_or kept core.0 None) None (slice_get-get_or kept core.0 None within) in
      let clash : Some None ≡ Some (Some decided) =
      sym found ∙ ap (slice_get (slice_set kept core.0 None)) (sym here) ∙ is in absurd (cc clash))
      (λ there. other_core other decided (sym (set-elsewhere kept core.0 other None there) ∙ is) there)
      (cases_eq other core.0)

-- ---- lines in front of rings

-- no line of any slice is known to be idle
no-count : (count place : ℕ) → get_or (replicate count zero) place zero ≡ zero
no-count zero place = refl
no-count (suc count) zero = refl
no-count (suc count) (suc place) = no-count count place

pub idle-none : (slices : List PartsView) (counts : List ℕ) → ((slice : ℕ) → get_or counts slice 0 ≡ 0)
    → AreIdle counts slices
idle-none slices counts none = λ slice p found.
    subst (λ n. HasIdleFront n p) (sym (none slice))
    (record { within = omega arith; idle = λ place local below. absurd (omega (arith, below)) })

-- .. of one slice more
pub zero_more : (counts : List ℕ) (end : ℕ) → end < length counts
    → ((slice : ℕ) → slice < end → get_or counts slice 0 ≡ 0)
    → (slice : ℕ) → slice < end + 1 → get_or (slice_set counts end 0) slice 0 ≡ 0
zero_more counts end within none slice below =
    ⊎_elim
    (λ here.
    ap (λ n. get_or (slice_set counts end 0) n 0) here ∙ get_or-set_same counts end 0 0 within)
    (λ there. get_or-set_other counts end slice 0 0 there ∙ none slice (omega (arith, below, there)))
    (cases_eq slice end)

-- .. of all
pub no-counts : (counts : List ℕ) (end : ℕ) → length counts ≤ end
    → ((slice : ℕ) → slice < end → get_or counts slice 0 ≡ 0) → (slice : ℕ) → get_or counts slice 0 ≡ 0
no-counts counts end all none slice =
    ⊎_elim (λ within. none slice (omega (arith, within, all))) (λ past. get_or_past counts slice 0 past)
    (cases_lt slice (length counts))

pub idle-begins : (slices : List PartsView) (count : ℕ) → AreIdle (replicate count 0) slices
idle-begins slices count = idle-none slices (replicate count 0) (no-count count)

one_idle : (slice : ℕ) (Goes : PartsView → PartsView → Type 0) (old new : List PartsView) (counts left : List ℕ)
    → OneSlice slice Goes old new → AreIdle counts old
    → ((before after : PartsView) → Goes before after → slice_get old slice ≡ Some before
    → slice_get new slice ≡ Some after
    → HasIdleFront (get_or counts slice 0) before → HasIdleFront (get_or left slice 0) after)
    → ((other : ℕ) → other ≢ slice → get_or left other 0 ≡ get_or counts other 0) → AreIdle left new
one_idle slice Goes old new counts left one all keeps others = λ at p found.
    ⊎_elim
    (λ here.
    let now : slice_get new slice ≡ Some one.after =
    ap (λ (xs : List PartsView). slice_get xs slice) one.others ∙ set-here old slice one.before one.after one.found in
    let both : Some one.after ≡ Some p = sym now ∙ ap (slice_get new) (sym here) ∙ found in
    let same : one.after ≡ p = cc both in
    subst (λ n. HasIdleFront (get_or left n 0) p) (sym here)
    (subst (HasIdleFront (get_or left slice 0)) same
    (keeps one.before one.after one.goes one.found now (all slice one.before one.found))))
    (λ there.
    let was : slice_get old at ≡ Some p =
    sym (set-elsewhere old slice at one.after there) ∙ sym (ap (λ (xs : List PartsView). slice_get xs at) one.others)
    ∙ found in
    subst (λ n. HasIdleFront n p) (sym (others at there)) (all at p was))
    (cases_eq at slice)

pub delivery_idle : (slice : ℕ) (pick : Pick) (answer : Delivered) (old new : List PartsView) (counts : List ℕ)
    → IsAnswered slice (slice_calls.Deliver pick) (call_answers.Deliver answer) old new → AreIdle counts old
    → AreIdle counts new
delivery_idle slice pick answer old new counts one all =
    one_idle slice _ old new counts counts one all
    (λ before after goes found now front. delivery-front _ before pick answer after front goes.made)
    (λ other apart. refl)

pub hand_idle : (slice : ℕ) (core : CoreId) (answer : Option Numbered) (old new : List PartsView) (counts : List ℕ)
    → IsAnswered slice (slice_calls.Hand core) (call_answers.Hand answer) old new → AreIdle counts old
    → AreIdle counts new
hand_idle slice core answer old new counts one all =
    one_idle slice _ old new counts counts one all
    (λ before after goes found now front. hand-front _ before core answer after goes.made front)
    (λ other apart. refl)

map-at : {X Y : Type 0} (f : X → Y) (xs : List X) (i : ℕ) (x : X) → slice_get xs i ≡ Some x
    → slice_get (map f xs) i ≡ Some (f x)
map-at f [] i x at = absurd (cc at)
map-at f (y ∷ xs) zero x at = let same : y ≡ x = cc at in ap (λ z. Some (f z)) same
map-at f (y ∷ xs) (suc i) x at = map-at f xs i x at

-- a slice of the machine knows its cores
pub known_core : (config : Config) (slices : List PartsView) (slice : ℕ) (p : PartsView) (core : CoreId)
    → IsMachine config slices → slice_get slices slice ≡ Some p → core.0 < config.cores
    → core.0 < length p.view.caches
known_core config slices slice p core machine found below =
    let each = machine.each slice p (slice_get_within slices slice p found) in
    let same : get_or slices slice p ≡ p = get_or_from_slice_get slices slice p p found in
    let cores : length p.view.caches ≡ config.cores =
    subst (λ (q : PartsView). length q.view.caches ≡ config.cores) same each.cores in
    omega (arith, cores, below)

-- the line that is in the ring is none to which something was sent
module _ (before : PartsView) (core : CoreId) (request : Request) (answer : Result Issue Refused) (after : PartsView)
    (known : core.0 < length before.view.caches) (made : AfterIssue before core request answer after) where
  unsent : (less : ℕ) → IsApart after less (line_of request.word) (last_written_back after.view core)
      → (place l : ℕ) → place < less → slice_get after.ring place ≡ Some l
      → SentAt before core request answer after known made l → ⊥
  unsent less apart place l below stands sent =
      let lines = (issue_keeps before core request answer after made).lines in
      let there : slice_get (ring_lines after) place ≡ Some (line_at before.view.lines (record { 0 = l })) =
      map-at (λ (n : ℕ). line_at after.view.lines (record { 0 = n })) after.ring place l stands
      ∙ ap (λ (own : Lines). Some (line_at own (record { 0 = l }))) lines in
      ⊎_elim
      (λ here.
      (apart place below).0 (there ∙ ap (λ n. Some (record { 0 = n })) (sym here)))
      (λ last. (apart place below).1 (there ∙ sym last)) sent

pub issue_idle : (config : Config) (slice : ℕ) (core : CoreId) (request : Request) (issued : Issued)
    (old new : List PartsView) (counts left : List ℕ) → IsMachine config old → core.0 < config.cores
    → IsIssued slice core request issued old new → AreIdle counts old
    → LooksAgain new slice core (line_of request.word) issued counts left → AreIdle left new
issue_idle config slice core request (issued_kinds.Pending seq) old new counts left machine below one all looks =
    let now : slice_get new slice ≡ Some one.after =
    ap (λ (xs : List PartsView). slice_get xs slice) one.others ∙ set-here old slice one.before one.after one.found in
    one_idle slice _ old new counts left one all
    (λ before after goes found now front.
    let known = known_core config old slice before core machine found below in
    let less = (looks after now).0 in
    let made = goes.answers.made in
    issue-front before core request (Ok (issues.Pending seq)) after made known (get_or counts slice 0)
    (get_or left slice 0) front less.0
    (unsent before core request (Ok (issues.Pending seq)) after known made (get_or left slice 0) less.1))
    (looks one.after now).1
issue_idle config slice core request (issued_kinds.Done number reply) old new counts left machine below one all looks =
    subst (λ (these : List ℕ). AreIdle these new) (sym looks)
    (one_idle slice _ old new counts counts one all
    (λ before after goes found now front.
    same-front before core request (Ok (issues.Done number)) after goes.answers.made (get_or counts slice 0)
    (λ seq is. cc is) front)
    (λ other apart. refl))
issue_idle config slice core request (issued_kinds.Stall stall) old new counts left machine below one all looks =
    subst (λ (these : List ℕ). AreIdle these new) (sym looks)
    (one_idle slice _ old new counts counts one all
    (λ before after goes found now front.
    same-front before core request (Ok (issues.Stall stall)) after goes.answers.made (get_or counts slice 0)
    (λ seq is. cc is) front)
    (λ other apart. refl))
issue_idle config slice core request (issued_kinds.Refused refused) old new counts left machine below one all looks =
    subst (λ (these : List ℕ). AreIdle these new) (sym looks)
    (one_idle slice _ old new counts counts one all
    (λ before after goes found now front.
    same-front before core request (Err refused) after goes.answers.made (get_or counts slice 0)
    (λ seq is. cc is) front)
    (λ other apart. refl))

-- the count of one slice is another
pub idle_set : (slices : List PartsView) (counts : List ℕ) (slice count : ℕ) (state : PartsView)
    → slice_get slices slice ≡ Some state → slice < length counts → HasIdleFront count state → AreIdle counts slices
    → AreIdle (slice_set counts slice count) slices
idle_set slices counts slice count state found within front all = λ at p there.
    ⊎_elim
    (λ here.
    let both : Some state ≡ Some p = sym found ∙ ap (slice_get slices) (sym here) ∙ there in
    let same : state ≡ p = cc both in
    let is : get_or (slice_set counts slice count) at 0 ≡ count =
    ap (λ n. get_or (slice_set counts slice count) n 0) here ∙ get_or-set_same counts slice count 0 within in
    subst (λ n. HasIdleFront n p) (sym is) (subst (HasIdleFront count) same front))
    (λ other. subst (λ n. HasIdleFront n p) (sym (get_or-set_other counts slice at count 0 other)) (all at p there))
    (cases_eq at slice)

-- nothing is known of a slice past the last
pub looks_past : (slices : List PartsView) (slice : ℕ) (core : CoreId) (line : LineAddr) (counts : List ℕ)
    → length counts ≤ slice → LooksBehind slices slice core line counts counts
looks_past slices slice core line counts past = λ p found.
    let none : get_or counts slice 0 ≡ 0 = get_or_past counts slice 0 past in
    ((omega arith, (λ place below. absurd (omega (arith, below, none)))), (λ other apart. refl))
