-- Each call of a slice leaves its lines reached, blocks and all, and the log legal: a request, an eviction, and a reply
-- that is handed out.
use Rattle.std.proofs.Common.{◌≡◌, ℕ, ◌*◌, ◌/◌, ◌%◌, ◌<◌, Bool, true, false, if◌then◌else◌, List, length, Option, Some}
use Rattle.std.proofs.Common.{None, Result, arith, refl, ap, ◌∙◌}
use Rattle.std.specs.Prelude.{◌==◌, ◌&&◌, nat_lt}
use Rattle.std.proofs.Math.Nat.{mod-add-div}
use Rattle.std.proofs.lemmas.Bool.{and_parts, eqb-true}
use Rattle.address_map.specs.Locator.{Lines, line_at, local_at}
use Rattle.address_map.specs.declared.address.CoreId.{CoreId}
use Rattle.address_map.specs.declared.address.LineAddr.{LineAddr}
use Rattle.address_map.specs.declared.address.Local.{Local}
use Rattle.address_map.specs.declared.request.Request.{Request}
use Rattle.cache_table.specs.declared.state.CopyState.{CopyState}
use Rattle.mshr_file.specs.declared.registers.Register.{Register}
use Rattle.slice_answer.specs.declared.answer.Evicted.{Evicted}
use Rattle.slice_answer.specs.declared.answer.Issue.{Issue}
use Rattle.slice_answer.specs.declared.answer.Refused.{Refused}
use Rattle.slice_core_cache.specs.declared.access.Ask.{Ask}
use Rattle.slice_core_cache.specs.declared.access.Placement.{Placement}
use Rattle.slice_core_cache.specs.declared.access.Placement.TheVariants as placements
use Rattle.slice_core_theory.proofs.BlocksAccesses.{hit_keeps, hit_legal}
use Rattle.slice_core_theory.proofs.BlocksOpenings.{evict_keeps, hand_keeps, join_keeps, open_keeps}
use Rattle.slice_core_theory.proofs.KeptByCalls.{evicted_keeps, handed_keeps, issue_keeps}
use Rattle.slice_core_theory.proofs.Steps.{KeepsAccesses}
use Rattle.slice_core_theory.specs.Newest.{IsFaithful}
use Rattle.slice_core_theory.specs.Whole.{IsAddressed, IsWhole}
use Rattle.slice_core_spec.specs.Calls.{PartsView, AfterEvict, AfterHand, AfterIssue}
use Rattle.slice_core_spec.specs.Steps.{after_open}
use Rattle.slice_core_spec.specs.View.{View}
use Rattle.slice_log.specs.Log.{IsLegal, initially}
use Rattle.slice_log.specs.declared.entry.Numbered.{Numbered}

-- A line's place among the slice's own leads back to it.
pub line_located : (own : Lines) (line : ℕ) (local : Local) → local_at own line ≡ Some local
    → line ≡ (line_at own local).0
line_located own line local =
    by (line % own.slices == own.slice && nat_lt (line / own.slices) own.lines)
    (λ mine. eqb-true _ _ (and_parts _ _ mine).0)
  where
    by : (mine : Bool) → (mine ≡ true → line % own.slices ≡ own.slice)
        → (if mine then Some (record { 0 = line / own.slices }) else None) ≡ Some local
        → line ≡ (line_at own local).0
    by true slice is =
        let here : Local = record { 0 = line / own.slices } in
        let same : here ≡ local = cc in
        let whole = mod-add-div line own.slices in
        let turned : own.slices * (line / own.slices) ≡ line / own.slices * own.slices = omega arith in
        let part = slice refl in
        let back : line ≡ (line_at own here).0 = omega (arith, whole, turned, part) in
        back ∙ ap (λ l. (line_at own l).0) same
    by false slice is = absurd (cc is)

-- An access that opens a register changes nothing of the log, in whatever way its line comes in.
opened_legal : (v : View) (core : CoreId) (local : Local) (request : Request) (placement : Placement) (next : CopyState)
    (ask : Ask)
    (misses : List Register) → IsLegal (initially v.init) v.log
    → IsLegal (initially (after_open v core request local placement next ask misses).init)
    (after_open v core request local placement next ask misses).log
opened_legal v core local request placements.Held next ask misses legal = legal
opened_legal v core local request placements.Free next ask misses legal = legal
opened_legal v core local request placements.Victim next ask misses legal = legal

-- what is known of the slice
abbrev pub Known : View → Type 0
Known v = IsWhole v × IsAddressed v

accesses_keep : KeepsAccesses Known IsFaithful
accesses_keep = record {
  hit = λ v core local request next known there inside found held row all.
      let whole = known.0 in
      let own = line_located v.lines (request.word.0 / 8) local found in
      record {
        reached = hit_keeps v core local whole.shaped whole.few known.1.machine there inside (whole.kept core there)
            request next own held row all.reached;
        legal = hit_legal v core local whole.shaped whole.few known.1.machine there inside (whole.kept core there)
            request next own held row all.reached all.legal;
      };
  opening = λ v core local request way next ask misses target known there inside place victim row adds all.
      let whole = known.0 in
      record {
        reached = open_keeps v core local whole.shaped whole.few there inside (whole.kept core there) request way next
            ask misses place victim row all.reached;
        legal = opened_legal v core local request way next ask misses all.legal;
      };
  join = λ v core local request misses target known there inside waits adds all. record {
    reached = join_keeps v core request misses there all.reached;
    legal = all.legal;
  };
  evict = λ v core local known there inside leaves all.
      let whole = known.0 in
      record {
        reached = evict_keeps v core local whole.shaped whole.few there inside (whole.kept core there) leaves
            all.reached;
        legal = all.legal;
      };
  hand = λ v core tag there all. record { reached = hand_keeps v core tag there all.reached; legal = all.legal };
}

-- A request leaves the slice faithful.
pub faithful_issue : (old : PartsView) (core : CoreId) (request : Request) (answer : Result Issue Refused)
    (new : PartsView) → IsWhole old.view → IsAddressed old.view → core.0 < length old.view.caches
    → IsFaithful old.view → AfterIssue old core request answer new → IsFaithful new.view
faithful_issue old core request answer new whole addressed known all =
    issue_keeps Known IsFaithful accesses_keep old core request answer new whole (whole, addressed) known all

-- An eviction does.
pub faithful_evicted : (old : PartsView) (core : CoreId) (line : LineAddr) (answer : Evicted) (new : PartsView)
    → IsWhole old.view → IsAddressed old.view → core.0 < length old.view.caches → IsFaithful old.view
    → AfterEvict old core line answer new → IsFaithful new.view
faithful_evicted old core line answer new whole addressed known all =
    evicted_keeps Known IsFaithful accesses_keep old core line answer new whole (whole, addressed) known all

-- And a reply that is handed out.
pub faithful_handed : (old : PartsView) (core : CoreId) (answer : Option Numbered) (new : PartsView)
    → core.0 < length old.view.caches → IsFaithful old.view → AfterHand old core answer new → IsFaithful new.view
faithful_handed old core answer new known all =
    handed_keeps Known IsFaithful accesses_keep old core answer new known all
