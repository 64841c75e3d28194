-- What each step of the small machine makes of a book.
use Rattle.std.proofs.Common.{◌≡◌, ℕ, ◌+◌, false, List, [], ◌∷◌, ◌++◌, length, map, sym, ap, ◌∙◌, subst, ⊎_elim, Some}
use Rattle.std.proofs.Common.{set, true, zero-add, arith}
use Rattle.std.specs.Prelude.{slice_get}
use Rattle.std.proofs.lemmas.List.{length-append}
use Rattle.address_map.specs.declared.address.WordAddr.{WordAddr}
use Rattle.address_map.specs.declared.config.Config.{Config}
use Rattle.receipt_ledger.proofs.Counts.{accept-counted, hand-counted, new-counted, perform-counted, same-counted}
use Rattle.receipt_ledger.proofs.Marks.{OneMore, handed_out-marked, handed_out-waiting}
use Rattle.receipt_ledger.specs.Booked.{IsBooked, IsServed}
use Rattle.receipt_ledger.specs.Counted.{handed_out}
use Rattle.receipt_ledger.proofs.Totals.{together_assoc, totals_accepted, totals_append, totals_cons, totals_nil}
use Rattle.address_map.specs.Place.{counters_of}
use Rattle.receipt_ledger.specs.Totals.{Totals, nothing, only_accepted, only_handed, together, totals}
use Rattle.slice_log.proofs.Pushes.{slice_get-push}
use Rattle.slice_log.specs.declared.entry.Entry.{Entry}
use Rattle.slice_core_theory.specs.SmallMachine.{Asked, Can, IsSame, SmallMachine, Run, accept, after, entry_for, hand}
use Rattle.slice_core_theory.specs.SmallMachine.{new_small_machine, perform}

-- one more that is handed out is counted as such, wherever it is
pub totals-one_more : (words : List WordAddr) (n : ℕ) (e : Entry) (old new : List Entry) → OneMore e old new
    → totals words n new ≡ together (totals words n old) (only_handed words e)
totals-one_more words n e old new one =
    ap (λ k. totals words k new) (sym (zero-add n))
    ∙ ap (totals words (0 + n)) one.is
    ∙ totals_append words 0 n one.before (e ∷ one.later)
    ∙ ap (together (totals words 0 one.before)) (totals_cons words n one.later e)
    ∙ sym (together_assoc (totals words 0 one.before) (totals words n one.later) (only_handed words e))
    ∙ ap (λ t. together t (only_handed words e))
    (sym (totals_append words 0 n one.before one.later) ∙ ap (totals words (0 + n)) (sym one.was)
    ∙ ap (λ k. totals words k old) (zero-add n))

-- Where nothing was asked for, the totals are nothing.
pub new-booked : (c : Config) (slice : ℕ) → IsBooked c slice nothing new_small_machine
new-booked c slice = record {
  waiting = [];
  marks = [];
  counted = new-counted;
  totals_are = sym (totals_nil (counters_of c slice));
  asked = λ r none. absurd none;
  logged = λ number e there. absurd (cc);
}

module _ (c : Config) (slice : ℕ) (t : Totals) (m : SmallMachine) (booked : IsBooked c slice t m) where
  abbrev counters : List WordAddr
  counters = counters_of c slice

  pub same-booked : (n : SmallMachine) → IsSame m n → IsBooked c slice t n
  same-booked n same = record {
    waiting = booked.waiting;
    marks = booked.marks;
    counted = same-counted m booked.waiting booked.marks booked.counted n same;
    totals_are =
        booked.totals_are
        ∙ ap (λ (log : List Entry). totals counters (length booked.waiting + length log) (handed_out log booked.marks))
        same.log;
    asked = λ r waits. booked.asked r ((same.waiting r).1 waits);
    logged = λ number e there. booked.logged number e (ap (λ log. slice_get log number) same.log ∙ there);
  }

  pub accept-booked : (initial : ℕ → ℕ) (r : Asked) → Can m (accept r) → IsServed c slice r.op r.word
      → IsBooked c slice (together t (only_accepted 1)) (after initial m (accept r))
  accept-booked initial r can served = record {
    waiting = booked.waiting ++ r ∷ [];
    marks = booked.marks;
    counted = accept-counted m booked.waiting booked.marks booked.counted initial r can;
    totals_are =
        ap (λ u. together u (only_accepted 1)) booked.totals_are
        ∙ sym (totals_accepted counters (length booked.waiting + length m.log) 1 (handed_out m.log booked.marks))
        ∙ ap (λ n. totals counters n (handed_out m.log booked.marks))
        (let long = length-append booked.waiting (r ∷ []) in omega (arith, long));
    asked = λ other waits.
        ⊎_elim (λ before. booked.asked other before)
        (λ is. subst (λ (o : Asked). IsServed c slice o.op o.word) (sym is) served) waits;
    logged = booked.logged;
  }

  pub perform-booked : (initial : ℕ → ℕ) (r : Asked) → Can m (perform r)
      → IsBooked c slice t (after initial m (perform r))
  perform-booked initial r can =
      let done = perform-counted m booked.waiting booked.marks booked.counted initial r can in
      let e = entry_for initial m.log r in record {
        waiting = done.0;
        marks = booked.marks ++ false ∷ [];
        counted = done.2;
        totals_are =
            booked.totals_are
            ∙ ap (λ n. totals counters n (handed_out m.log booked.marks))
            (let long = length-append m.log (e ∷ []) in let less = done.1 in omega (arith, long, less))
            ∙ ap (totals counters (length done.0 + length (m.log ++ e ∷ [])))
            (sym (handed_out-waiting m.log booked.marks e booked.counted.sized));
        asked = λ other waits. booked.asked other waits.0;
        logged = λ number given there.
            ⊎_elim (λ before. booked.logged number given before.1)
            (λ is.
            subst (λ (d : Entry). IsServed c slice d.op d.word) (sym is.1) (booked.asked r can.0))
            (slice_get-push m.log e number given there);
      }

  pub hand-booked : (initial : ℕ → ℕ) (number : ℕ) (e : Entry) → Can m (hand number) → slice_get m.log number ≡ Some e
      → IsBooked c slice (together t (only_handed counters e)) (after initial m (hand number))
  hand-booked initial number e can there =
      let accepted = length booked.waiting + length m.log in record {
        waiting = booked.waiting;
        marks = set booked.marks number true;
        counted = hand-counted m booked.waiting booked.marks booked.counted initial number can;
        totals_are =
            ap (λ u. together u (only_handed counters e)) booked.totals_are
            ∙ sym (totals-one_more counters accepted e (handed_out m.log booked.marks)
            (handed_out m.log (set booked.marks number true))
            (handed_out-marked m.log booked.marks number e there ((booked.counted.replies number).0 can)));
        asked = booked.asked;
        logged = booked.logged;
      }

-- What is performed changes no totals.
pub performs-booked : (initial : ℕ → ℕ) (c : Config) (slice : ℕ) (t : Totals) (requests : List Asked)
    (m now : SmallMachine)
    → IsBooked c slice t m → Run initial (map perform requests) m now → IsBooked c slice t now
performs-booked initial c slice t [] m now booked run = same-booked c slice t m booked now run
performs-booked initial c slice t (r ∷ requests) m now booked run =
    performs-booked initial c slice t requests (after initial m (perform r)) now
    (perform-booked c slice t m booked initial r run.0) run.1
