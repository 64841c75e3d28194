-- What an access leaves of the lines in front of a ring in which nothing waits: those to which nothing was sent.
use Rattle.std.proofs.Common.{◌≡◌, ℕ, ◌<◌, ◌≤◌, ◌⊎◌, List, [], ◌++◌, length}
use Rattle.std.proofs.Common.{get_or, Some, Result, Ok, refl, sym, ap, ◌∙◌, subst, ⊎_elim, inl, inr}
use Rattle.std.proofs.Common.{append-nil, append_assoc, arith}
use Rattle.std.specs.Prelude.{slice_get, slice_set}
use Rattle.std.proofs.lemmas.List.{get_or-set_other}
use Rattle.address_map.specs.Locator.{line_at}
use Rattle.address_map.specs.Place.{line_of}
use Rattle.address_map.specs.declared.address.CoreId.{CoreId}
use Rattle.address_map.specs.declared.address.Local.{Local}
use Rattle.address_map.specs.declared.request.Request.{Request}
use Rattle.cache_table.specs.declared.state.CopyState.{CopyState}
use Rattle.slice_answer.specs.declared.answer.Issue.{Issue}
use Rattle.slice_answer.specs.declared.answer.Issue.TheVariants as issues
use Rattle.slice_answer.specs.declared.answer.Refused.{Refused}
use Rattle.slice_core.proofs.Victim.{victim_left_last}
use Rattle.slice_core_cache.specs.Steps.{victim_for}
use Rattle.slice_core_cache.specs.declared.access.AccessKind.{AccessKind}
use Rattle.slice_core_cache.specs.declared.access.AccessKind.TheVariants as access_kinds
use Rattle.slice_core_cache.specs.declared.access.Ask.{Ask}
use Rattle.slice_core_cache.specs.declared.access.Placement.{Placement}
use Rattle.slice_core_cache.specs.declared.access.Placement.TheVariants as placements
use Rattle.slice_core_theory.proofs.KeptByCalls.{decided}
use Rattle.slice_core_spec.specs.Calls.{AfterDecision}
use Rattle.slice_core_spec.specs.Calls.{PartsView, AfterAccepting, AfterAccess, AfterIssue, IsAccepted, LacksMemory}
use Rattle.slice_core_spec.specs.PrimaryMiss.{AfterPrimaryMiss}
use Rattle.slice_core_spec.specs.Decision.{decision_of}
use Rattle.slice_core_spec.specs.View.{cache_at, channels_at}
use Rattle.slice_core_spec.specs.declared.decision.Decision.{Decision}
use Rattle.slice_core_spec.specs.declared.decision.Decision.TheVariants as decisions
use Rattle.slice_core_exec.specs.CoreLines.{last_written_back}
use Rattle.slice_queues.specs.Line.{LineChannels, empty_line}
use Rattle.slice_queues.specs.Ring.{with_listed}
use Rattle.program_run.proofs.FrontCalls.{front-kept, listed}
use Rattle.program_run.proofs.FrontLemmas.{line-named}
use Rattle.program_run.specs.Front.{HasIdleFront}

-- lines came into the ring after the others, and only to lines at these places something was sent
record SendsTo (At : ℕ → Type 0) (old new : PartsView) : Type 0 where
  more : List ℕ
  grows : new.ring ≡ old.ring ++ more
  same : (l : ℕ) → (At l → ⊥) → channels_at new.view (record { 0 = l }) ≡ channels_at old.view (record { 0 = l })

sends-nothing : (At : ℕ → Type 0) (old new : PartsView) → new.ring ≡ old.ring
    → new.view.channels ≡ old.view.channels → SendsTo At old new
sends-nothing At old new ring channels = record {
  more = [];
  grows = ring ∙ sym (append-nil old.ring);
  same = λ l apart. ap (λ (all : List LineChannels). get_or all l (empty_line 0)) channels;
}

module _ (old : PartsView) (core : CoreId) (request : Request) (answer : Result Issue Refused) (new : PartsView)
    (known : core.0 < length old.view.caches) (made : AfterIssue old core request answer new) where
  -- the places of the line that was asked for, and of the one that was evicted last
  abbrev pub SentAt : ℕ → Type 0
  SentAt l =
      ((line_of request.word).0 ≡ (line_at old.view.lines (record { 0 = l })).0)
      ⊎ (last_written_back new.view core ≡ Some (line_at old.view.lines (record { 0 = l })))

  abbrev Sends : Type 0
  Sends = SendsTo SentAt old new

  is-line : (local : Local) (access : AccessKind) → decision_of old.view core request ≡ decisions.Access local access
      → (line_of request.word).0 ≡ (line_at old.view.lines local).0
  is-line local access is =
      line-named old.view.lines (line_of request.word) local (decided old.view core request local access is).2

  opened : (local : Local) (next : CopyState) (ask : Ask) (placement : Placement) (issue : Issue) (room : ℕ)
      → decision_of old.view core request ≡ decisions.Access local (access_kinds.PrimaryMiss next ask placement)
      → answer ≡ Ok issue
      → AfterPrimaryMiss (record old { room = room }) core request local placement next ask issue new → Sends
  opened local next ask placements.Held issue room is says after =
      let (more, grows) = listed old.ring local.0 in record {
        more = more;
        grows = ap (λ (p : PartsView). p.ring) after.3.1 ∙ grows;
        same = λ l apart. ap (λ (p : PartsView). channels_at p.view (record { 0 = l })) after.3.1
            ∙ get_or-set_other old.view.channels local.0 l _ (empty_line 0)
            (λ here. apart (inl (is-line local _ is ∙ ap (λ n. (line_at old.view.lines (record { 0 = n })).0) (sym here))));
      }
  opened local next ask placements.Free issue room is says after =
      let (more, grows) = listed old.ring local.0 in record {
        more = more;
        grows = ap (λ (p : PartsView). p.ring) after.3.1 ∙ grows;
        same = λ l apart. ap (λ (p : PartsView). channels_at p.view (record { 0 = l })) after.3.1
            ∙ get_or-set_other old.view.channels local.0 l _ (empty_line 0)
            (λ here. apart (inl (is-line local _ is ∙ ap (λ n. (line_at old.view.lines (record { 0 = n })).0) (sym here))));
      }
  opened local next ask placements.Victim issue room is says after =
      let gone = victim_for (cache_at old.view core) local in
      let (first, one) = listed old.ring gone.0 in
      let (second, two) = listed (old.ring ++ first) local.0 in
      let last =
      victim_left_last old core request answer new known local next ask _ is (says ∙ ap (λ (i : Issue). Ok i) after.3.0)
      made in record {
        more = first ++ second;
        grows = ap (λ (p : PartsView). p.ring) after.3.1
            ∙ (subst (λ (ring : List ℕ). with_listed ring local.0 ≡ old.ring ++ (first ++ second)) (sym one)
            (two ∙ append_assoc old.ring first second));
        same = λ l apart. ap (λ (p : PartsView). channels_at p.view (record { 0 = l })) after.3.1
            ∙ get_or-set_other (slice_set old.view.channels gone.0 _) local.0 l _ (empty_line 0)
            (λ here. apart (inl (is-line local _ is ∙ ap (λ n. (line_at old.view.lines (record { 0 = n })).0) (sym here))))
            ∙ get_or-set_other old.view.channels gone.0 l _ (empty_line 0)
            (λ here. apart (inr (last ∙ ap (λ n. Some (line_at old.view.lines (record { 0 = n }))) (sym here))));
      }

-- an access leaves what it leaves of lines where it opens a register
module _ (old : PartsView) (core : CoreId) (request : Request) (answer : Result Issue Refused) (new : PartsView)
    (At : ℕ → Type 0)
    (opens : (local : Local) (next : CopyState) (ask : Ask) (placement : Placement) (issue : Issue) (room : ℕ)
    → decision_of old.view core request ≡ decisions.Access local (access_kinds.PrimaryMiss next ask placement)
    → answer ≡ Ok issue
    → AfterPrimaryMiss (record old { room = room }) core request local placement next ask issue new
    → SendsTo At old new) where
  accepted : (local : Local) (access : AccessKind) → decision_of old.view core request ≡ decisions.Access local access
      → (room : ℕ) (issue : Issue) → answer ≡ Ok issue
      → AfterAccepting access (record old { room = room }) core request local issue new → SendsTo At old new
  accepted local (access_kinds.Stall stall) is room issue says after =
      sends-nothing At old new (ap (λ (p : PartsView). p.ring) after.1)
      (ap (λ (p : PartsView). p.view.channels) after.1)
  accepted local (access_kinds.Hit way next silent) is room issue says after =
      sends-nothing At old new (ap (λ (p : PartsView). p.ring) after.1)
      (ap (λ (p : PartsView). p.view.channels) after.1)
  accepted local access_kinds.SecondaryMiss is room issue says after =
      sends-nothing At old new (ap (λ (p : PartsView). p.ring) after.3.1)
      (ap (λ (p : PartsView). p.view.channels) after.3.1)
  accepted local (access_kinds.PrimaryMiss next ask placement) is room issue says after =
      opens local next ask placement issue room is says after

  let_in : (local : Local) (access : AccessKind) → decision_of old.view core request ≡ decisions.Access local access
      → LacksMemory old answer new ⊎ IsAccepted access old core request local answer new → SendsTo At old new
  let_in local access is after =
      ⊎_elim
      (λ lacks. sends-nothing At old new (ap (λ (p : PartsView). p.ring) lacks.unchanged)
      (ap (λ (p : PartsView). p.view.channels) lacks.unchanged))
      (λ all. accepted local access is all.0 all.1 all.4 all.5) after

  accessed : (local : Local) (access : AccessKind) → decision_of old.view core request ≡ decisions.Access local access
      → AfterAccess access old core request local answer new → SendsTo At old new
  accessed local (access_kinds.Stall stall) is after =
      sends-nothing At old new (ap (λ (p : PartsView). p.ring) after.1)
      (ap (λ (p : PartsView). p.view.channels) after.1)
  accessed local (access_kinds.Hit way next silent) is after =
      let_in local (access_kinds.Hit way next silent) is after
  accessed local access_kinds.SecondaryMiss is after = let_in local access_kinds.SecondaryMiss is after
  accessed local (access_kinds.PrimaryMiss next ask placement) is after =
      let_in local (access_kinds.PrimaryMiss next ask placement) is after

  issued : (decision : Decision) → decision_of old.view core request ≡ decision
      → AfterDecision decision old core request answer new
      → SendsTo At old new
  issued (decisions.Refuse refused) is after =
      sends-nothing At old new (ap (λ (p : PartsView). p.ring) after.1)
      (ap (λ (p : PartsView). p.view.channels) after.1)
  issued (decisions.Access local access) is after = accessed local access is after

module _ (old : PartsView) (core : CoreId) (request : Request) (answer : Result Issue Refused) (new : PartsView)
    (made : AfterIssue old core request answer new) where
  -- lines to which nothing was sent stay idle
  pub issue-front : (known : core.0 < length old.view.caches) (count less : ℕ) → HasIdleFront count old → less ≤ count
      → ((place l : ℕ) → place < less → slice_get new.ring place ≡ Some l
      → SentAt old core request answer new known made l → ⊥) → HasIdleFront less new
  issue-front known count less front few apart =
      let sends = issued old core request answer new (SentAt old core request answer new known made)
      (opened old core request answer new known made) (decision_of old.view core request) refl made in
      front-kept count less old new sends.more few sends.grows
      (λ place local below stands idle. sends.same local (apart place local below stands)) front

  -- .. and all where no access waits
  pub same-front : (count : ℕ) → ((seq : ℕ) → answer ≡ Ok (issues.Pending seq) → ⊥) → HasIdleFront count old
      → HasIdleFront count new
  same-front count done front =
      let sends = issued old core request answer new (λ l. ⊥)
      (λ local next ask placement issue room is says after.
      absurd (done _ (says ∙ ap (λ (i : Issue). Ok i) after.3.0)))
      (decision_of old.view core request) refl made in
      front-kept count count old new sends.more (omega arith) sends.grows
      (λ place local below stands idle. sends.same local (λ no. no)) front
