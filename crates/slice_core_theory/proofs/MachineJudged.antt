-- What a decided access says of the request that it was decided for.
use Rattle.std.proofs.Common.{◌≡◌, ◌≢◌, ℕ, ◌*◌, ◌/◌, ◌%◌, ◌<◌, Bool, true, false, not, if◌then◌else◌, Option, Some}
use Rattle.std.proofs.Common.{None, refl, sym, ap, subst, ◌∙◌, arith}
use Rattle.std.specs.Prelude.{◌==◌, ◌&&◌, nat_lt}
use Rattle.std.proofs.Math.Nat.{mod-add-div}
use Rattle.std.proofs.lemmas.Bool.{and_parts, eqb-true, ltb-true}
use Rattle.address_map.specs.Locator.{Lines, is_past, line_at}
use Rattle.address_map.specs.declared.address.CoreId.{CoreId}
use Rattle.address_map.specs.declared.address.Local.{Local}
use Rattle.address_map.specs.declared.request.Op.{Op}
use Rattle.address_map.specs.declared.request.Request.{Request}
use Rattle.cache_table.specs.declared.state.CopyState.{CopyState}
use Rattle.mshr_file.specs.Miss.{can_join, can_open, has_miss}
use Rattle.mshr_file.specs.declared.admission.Admission.TheVariants as admissions
use Rattle.slice_answer.specs.declared.answer.Refused.{Refused}
use Rattle.slice_answer.specs.declared.answer.Refused.TheVariants as refusals
use Rattle.slice_core_cache.specs.Access.{access_of, by_admission}
use Rattle.slice_core_cache.specs.CoreCache.{CoreCacheView, tag_at}
use Rattle.slice_core_cache.specs.Tags.{is_free}
use Rattle.slice_core_cache.specs.declared.access.AccessKind.{AccessKind}
use Rattle.slice_core_cache.specs.declared.access.AccessKind.TheVariants as access_kinds
use Rattle.slice_core_cache.specs.declared.tags.TagState.{TagState}
use Rattle.slice_core_cache.specs.declared.tags.TagState.TheVariants as tag_states
use Rattle.slice_core_spec.specs.Decision.{decision_at, decision_of, is_counter, overwrites}
use Rattle.slice_core_spec.specs.View.{View, cache_at}
use Rattle.slice_core_spec.specs.declared.decision.Decision.{Decision}
use Rattle.slice_core_spec.specs.declared.decision.Decision.TheVariants as decisions

-- the request is for this line, its tag is free, and the access is what the core's state says
pub record IsJudged (v : View) (core : CoreId) (request : Request) (local : Local) (access : AccessKind) : Type 0 where
  pub line : request.word.0 / 8 ≡ (line_at v.lines local).0
  pub within : local.0 < v.lines.lines
  pub tag : request.tag < 64
  pub free : tag_at (cache_at v core) request.tag ≡ tag_states.Free
  pub decided : access_of (cache_at v core) local request.tag request.op ≡ access

-- ---- the request

free_tag : (state : TagState) → is_free state ≡ true → state ≡ tag_states.Free
free_tag tag_states.Free passes = refl
free_tag tag_states.Open passes = cc
free_tag (tag_states.Performed number) passes = cc

Refuse_apart : (refused : Refused) (local : Local) (access : AccessKind)
    → decisions.Refuse refused ≢ decisions.Access local access
Refuse_apart refused local access same = cc

-- An access passed each test before it.
passed : (first second third : Bool) (one other last : Refused) (decision : Decision) (local : Local)
    (access : AccessKind)
    → (if first then decisions.Refuse one else if second then decisions.Refuse other
    else if third then decisions.Refuse last else decision) ≡ decisions.Access local access
    → (first ≡ false) × (second ≡ false) × (decision ≡ decisions.Access local access)
passed true second third one other last decision local access is = absurd (Refuse_apart one local access is)
passed false true third one other last decision local access is = absurd (Refuse_apart other local access is)
passed false false true one other last decision local access is = absurd (Refuse_apart last local access is)
passed false false false one other last decision local access is = (refl, refl, is)

not_false : (b : Bool) → not b ≡ false → b ≡ true
not_false true passes = refl
not_false false passes = cc

-- A line's own place leads back to it.
own_line : (lines : Lines) (line : ℕ) → line % lines.slices ≡ lines.slice
    → line ≡ (line_at lines (record { 0 = line / lines.slices })).0
own_line lines line own =
    let whole = mod-add-div line lines.slices in
    let turned : lines.slices * (line / lines.slices) ≡ line / lines.slices * lines.slices = omega arith in
    omega (arith, whole, turned, own)

-- what follows once the line's place was looked up
abbrev by_place : View → CoreId → Request → Option Local → Decision
by_place v core request None = decisions.Refuse refusals.WrongSlice
by_place v core request (Some local) = decision_at v core request local

module _ (v : View) (core : CoreId) (request : Request) (local : Local) (access : AccessKind) where
  -- A request for a line of the slice was found there.
  placed : (past own : Bool) (here : Local)
      → (if past then decisions.Refuse refusals.OutOfRange
      else by_place v core request (if own then Some here else None)) ≡ decisions.Access local access
      → (own ≡ true) × (decision_at v core request here ≡ decisions.Access local access)
  placed true own here is = absurd (Refuse_apart refusals.OutOfRange local access is)
  placed false false here is = absurd (Refuse_apart refusals.WrongSlice local access is)
  placed false true here is = (refl, is)

  local_of : (other : Local) (second : AccessKind) → decisions.Access other second ≡ decisions.Access local access
      → other ≡ local
  local_of other second same = cc

  access_is : (other : Local) (second : AccessKind) → decisions.Access other second ≡ decisions.Access local access
      → second ≡ access
  access_is other second same = cc

  pub judged : decision_of v core request ≡ decisions.Access local access → IsJudged v core request local access
  judged is =
      let line = request.word.0 / 8 in
      let here : Local = record { 0 = line / v.lines.slices } in
      let found =
      placed (is_past v.lines request.word)
      (line % v.lines.slices == v.lines.slice && nat_lt (line / v.lines.slices) v.lines.lines) here is in
      let own = and_parts _ _ found.0 in
      let tests =
      passed (not (nat_lt request.tag 64)) (not (is_free (tag_at (cache_at v core) request.tag)))
      (overwrites request.op && is_counter v request.word) refusals.TagRange refusals.TagBusy refusals.CounterStore
      (decisions.Access here (access_of (cache_at v core) here request.tag request.op)) local access found.1 in
      let same = local_of here (access_of (cache_at v core) here request.tag request.op) tests.2 in record {
        line = own_line v.lines line (eqb-true _ _ own.0) ∙ ap (λ l. (line_at v.lines l).0) same;
        within = subst (λ (l : Local). l.0 < v.lines.lines) same (ltb-true (line / v.lines.slices) v.lines.lines own.1);
        tag = ltb-true request.tag 64 (not_false _ tests.0);
        free = free_tag _ (not_false _ tests.1);
        decided =
            ap (λ l. access_of (cache_at v core) l request.tag request.op) (sym same)
            ∙ access_is here (access_of (cache_at v core) here request.tag request.op) tests.2;
      }

-- ---- the access

-- Only a line without a register is hit.
pub hit-alone : (cache : CoreCacheView) (local : Local) (tag : ℕ) (op : Op) (way : ℕ) (next : CopyState) (silent : Bool)
    → access_of cache local tag op ≡ access_kinds.Hit way next silent → has_miss cache.misses local.0 ≡ false
hit-alone cache local tag op way next silent is =
    alone (has_miss cache.misses local.0) (can_join cache.bound cache.misses local.0 tag)
    (can_open cache.bound cache.misses tag) is
  where
    alone : (missed joins opens : Bool)
        → by_admission cache local op
        (if missed then (if joins then admissions.Join else admissions.NoTarget)
        else (if opens then admissions.Open else admissions.NoRegister)) ≡ access_kinds.Hit way next silent
        → missed ≡ false
    alone true true opens same = cc
    alone true false opens same = cc
    alone false joins opens same = refl
