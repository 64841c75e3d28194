-- State and book still belong together: what each call makes of the totals.
use Rattle.std.proofs.Common.{◌≡◌, ℕ, ◌<◌, List, [], ◌∷◌, ◌++◌, get_or, length, map, Some, Ok, sym, ap, ◌∙◌}
use Rattle.std.proofs.Common.{subst, arith}
use Rattle.std.specs.Prelude.{slice_get, slice_index_or}
use Rattle.std.proofs.Math.ListN.{get_or-map}
use Rattle.std.proofs.lemmas.List.{get_or_push, length-append}
use Rattle.std.proofs.lemmas.Option.{get_or_from_slice_get, same_Some}
use Rattle.address_map.specs.declared.address.CoreId.{CoreId}
use Rattle.address_map.specs.declared.config.Config.{Config}
use Rattle.address_map.specs.declared.request.Request.{Request}
use Rattle.receipt_ledger.proofs.Booked.{accept-booked, hand-booked, perform-booked, performs-booked, same-booked}
use Rattle.receipt_ledger.proofs.Issued.{issued-last}
use Rattle.receipt_ledger.proofs.Placed.{issued-judged}
use Rattle.receipt_ledger.specs.Booked.{IsServed, IsTied}
use Rattle.receipt_ledger.specs.Port.{IsEntryOf}
use Rattle.receipt_ledger.specs.Slice.{IsBuiltAs, IsSliceOf}
use Rattle.address_map.specs.Place.{counters_of, is_of_slice}
use Rattle.receipt_ledger.specs.Totals.{Totals, only_accepted, only_handed, together}
use Rattle.slice_core.specs.Facts.{IsSameSlice}
use Rattle.slice_answer.specs.declared.answer.Issue.{Issue}
use Rattle.slice_answer.specs.declared.answer.Issue.TheVariants as issues
use Rattle.slice_log.specs.Log.{initially}
use Rattle.slice_log.specs.declared.entry.Entry.{Entry}
use Rattle.slice_core_theory.specs.SmallMachine.{Asked, accept, after, entry_for, hand, perform}
use Rattle.slice_core_theory.specs.Shows.{Leads, Performs, issue_steps, next_of, small_machine_of}
use Rattle.slice_log.specs.declared.entry.Numbered.{Numbered}
use Rattle.slice_core_spec.specs.Calls.{AfterHand, AfterIssue, PartsView}
use Rattle.slice_core.specs.Shape.{shape_of}
use Rattle.slice_core_spec.specs.View.{no_cache}
use Rattle.slice_core_cache.specs.CoreCache.{CoreCacheView}

-- Where all parts have the same shapes, each has.
pub same-part : (old new : List CoreCacheView) (core : ℕ) → map shape_of new ≡ map shape_of old
    → shape_of (slice_index_or old core no_cache) ≡ shape_of (slice_index_or new core no_cache)
same-part old new core same =
    sym (get_or-map shape_of old core no_cache)
    ∙ ap (λ shapes. get_or shapes core (shape_of no_cache)) (sym same)
    ∙ get_or-map shape_of new core no_cache

-- A later state of a slice is one of it.
pub slice-kept : (c : Config) (number : ℕ) (old new : PartsView) → IsSliceOf c number old.view → IsSameSlice old new
    → IsSliceOf c number new.view
slice-kept c number old new slice same = record {
  allowed = slice.allowed;
  named = slice.named;
  lines = same.lines ∙ slice.lines;
  init = same.init ∙ slice.init;
  counters = same.counters ∙ slice.counters;
  cores = same.cores ∙ slice.cores;
  parts = λ core known.
      subst (IsBuiltAs c) (same-part old.view.caches new.view.caches core.0 same.shapes) (slice.parts core known);
  exclusive = same.exclusive ∙ slice.exclusive;
}

module _ (c : Config) (number : ℕ) (t : Totals) (old new : PartsView) (tied : IsTied c number t old) where
  -- Where no step was made, the totals are the same.
  pub same-tied : IsSameSlice old new → Leads [] old.view new.view → IsTied c number t new
  same-tied same leads = record {
    slice = slice-kept c number old new tied.slice same;
    reported = same.reported ∙ tied.reported;
    booked = same-booked c number t (small_machine_of old.view) tied.booked (small_machine_of new.view) leads.run;
  }

  -- What a delivery performs changes no totals.
  pub performs-tied : IsSameSlice old new → Performs old.view new.view → IsTied c number t new
  performs-tied same performs = record {
    slice = slice-kept c number old new tied.slice same;
    reported = same.reported ∙ tied.reported;
    booked =
        performs-booked (initially old.view.init) c number t performs.requests (small_machine_of old.view)
        (small_machine_of new.view) tied.booked performs.leads.run;
  }

  -- A reply that is handed out is one more entry of the totals.
  pub hand-tied : (given : ℕ) (e : Entry) → IsSameSlice old new → Leads (hand given ∷ []) old.view new.view
      → slice_get new.view.log given ≡ Some e → IsTied c number (together t (only_handed (counters_of c number) e)) new
  hand-tied given e same leads there =
      let initial = initially old.view.init in
      let counters = counters_of c number in
      let m = small_machine_of old.view in record {
        slice = slice-kept c number old new tied.slice same;
        reported = same.reported ∙ tied.reported;
        booked =
            same-booked c number (together t (only_handed counters e)) (after initial m (hand given))
            (hand-booked c number t m tied.booked initial given e leads.run.0
            (ap (λ log. slice_get log given) leads.run.1.log ∙ there))
            (small_machine_of new.view) leads.run.1;
      }

  module _ (core : CoreId) (request : Request) where
    abbrev asked : Asked
    asked = next_of old.view core request

    -- It is to a word of the slice, and stores to none of the configured counters.
    pub served-by : (issue : Issue) → AfterIssue old core request (Ok issue) new
        → IsServed c number request.op request.word
    served-by issue step =
        let slice = tied.slice in
        let fit =
        issued-judged c number old core request (Ok issue) new slice.allowed slice.lines slice.counters step in
        record {
          own = fit.0.own;
          spares = fit.2;
        }

    -- A request that is pending is one more that was accepted.
    pub pending-tied : (seq : ℕ) → AfterIssue old core request (Ok (issues.Pending seq)) new → IsSameSlice old new
        → Leads (accept asked ∷ []) old.view new.view → IsTied c number (together t (only_accepted 1)) new
    pending-tied seq step same leads =
        let initial = initially old.view.init in
        let counters = counters_of c number in
        let m = small_machine_of old.view in
        let served = served-by (issues.Pending seq) step in
        record {
          slice = slice-kept c number old new tied.slice same;
          reported = same.reported ∙ tied.reported;
          booked =
              same-booked c number (together t (only_accepted 1)) (after initial m (accept asked))
              (accept-booked c number t m tied.booked initial asked leads.run.0 served) (small_machine_of new.view)
              leads.run.1;
        }

    -- What is done at once is one more that was accepted, and one more entry.
    pub done-tied : (given : ℕ) (e : Entry) → AfterIssue old core request (Ok (issues.Done given)) new
        → IsSameSlice old new → Leads (accept asked ∷ perform asked ∷ hand given ∷ []) old.view new.view
        → slice_get new.view.log given ≡ Some e
        → IsTied c number (together (together t (only_accepted 1)) (only_handed (counters_of c number) e)) new
    done-tied given e step same leads there =
        let initial = initially old.view.init in
        let counters = counters_of c number in
        let served = served-by (issues.Done given) step in
        let m = small_machine_of old.view in
        let more = together t (only_accepted 1) in
        let accepted = after initial m (accept asked) in
        let performed = after initial accepted (perform asked) in
        record {
          slice = slice-kept c number old new tied.slice same;
          reported = same.reported ∙ tied.reported;
          booked =
              same-booked c number (together more (only_handed counters e)) (after initial performed (hand given))
              (hand-booked c number more performed
              (perform-booked c number more accepted
              (accept-booked c number t m tied.booked initial asked leads.run.0 served)
              initial asked leads.run.1.0)
              initial given e leads.run.1.1.0 (ap (λ log. slice_get log given) leads.run.1.1.1.log ∙ there))
              (small_machine_of new.view) leads.run.1.1.1;
        }

-- What is done at once is logged last, as the entry of its request.
pub record IsLast (old new : PartsView) (core : CoreId) (request : Request) (number : ℕ) : Type 0 where
  pub within : number < length new.view.log
  pub is : (e : Entry) → slice_get new.view.log number ≡ Some e
      → e ≡ entry_for (initially old.view.init) old.view.log (next_of old.view core request)

pub done-last : (old new : PartsView) (core : CoreId) (request : Request) (number : ℕ)
    → AfterIssue old core request (Ok (issues.Done number)) new
    → Leads (issue_steps (next_of old.view core request) (Ok (issues.Done number))) old.view new.view
    → IsLast old new core request number
done-last old new core request number step leads =
    let last = issued-last old core request number new step in
    let e = entry_for (initially old.view.init) old.view.log (next_of old.view core request) in
    let log : old.view.log ++ e ∷ [] ≡ new.view.log = leads.run.1.1.1.log in
    let long = length-append old.view.log (e ∷ []) in
    let same = ap (λ (l : List Entry). length l) log in record {
      within = omega (arith, last, long, same);
      is = λ given there.
          sym (get_or_from_slice_get (old.view.log ++ e ∷ []) number given e (ap (λ l. slice_get l number) log ∙ there))
          ∙ get_or_push old.view.log e e number (sym last);
    }

-- What is handed out is an entry for the core that asked, on a word of the slice.
module _ (c : Config) (number : ℕ) (t : Totals) (old new : PartsView)
    (tied : IsTied c number t old) (core : CoreId) where
  pub done-own : (request : Request) (given : ℕ) → AfterIssue old core request (Ok (issues.Done given)) new
      → Leads (issue_steps (next_of old.view core request) (Ok (issues.Done given))) old.view new.view
      → (e : Entry) → slice_get new.view.log given ≡ Some e → IsEntryOf c number core e
  done-own request given step leads e there =
      let is = (done-last old new core request given step leads).is e there in record {
        core_is = ap (λ (x : Entry). x.core) is;
        word =
            ap (λ (x : Entry). is_of_slice c number x.word) is
            ∙ (served-by c number t old new tied core request (issues.Done given) step).own;
      }

  pub hand-own : (given : Numbered) → AfterHand old core (Some given) new → given.entry.core ≡ core
      → Leads (hand given.number ∷ []) old.view new.view
      → (e : Entry) → slice_get new.view.log given.number ≡ Some e → IsEntryOf c number core e
  hand-own given step asked leads e there =
      let before = ap (λ log. slice_get log given.number) leads.run.1.log ∙ there in record {
        core_is = ap (λ (x : Entry). x.core) (same_Some e given.entry (sym before ∙ step.2)) ∙ asked;
        word = (tied.booked.logged given.number e before).own;
      }
