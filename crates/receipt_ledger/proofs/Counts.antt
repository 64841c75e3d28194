-- What each step of the small machine makes of its counts.
use Rattle.std.proofs.Common.{◌≡◌, ◌≢◌, ℕ, ◌+◌, ◌<◌, ◌≤◌, ◌⊎◌, Bool, true, false, List, [], ◌∷◌, ◌++◌, length, get_or}
use Rattle.std.proofs.Common.{set, inl, inr, refl, sym, ap, ◌∙◌, subst, ⊎_elim, arith}
use Rattle.std.specs.Prelude.{Contains}
use Rattle.std.specs.List.{remove}
use Rattle.std.proofs.lemmas.Bool.{cases_eq, cases_lt, false≢true}
use Rattle.std.proofs.lemmas.List.{get_or-set_other, get_or-set_same, get_or_append_left, get_or_past, get_or_push}
use Rattle.std.proofs.lemmas.List.{length-append, length-set}
use Rattle.std.proofs.lemmas.List.Edits.{length-remove}
use Rattle.std.proofs.lemmas.List.Elements.{Contains-append_left, Contains-get_or, Contains-push, Contains-push_cases}
use Rattle.std.proofs.lemmas.List.Quantifiers.{all_pairs_push, all_pairs_remove}
use Rattle.slice_core_theory.specs.SmallMachine.{Asked, Can, IsSame, SmallMachine, accept, after, entry_for, hand}
use Rattle.slice_core_theory.specs.SmallMachine.{new_small_machine}
use Rattle.slice_core_theory.specs.SmallMachine.{perform}
use Rattle.slice_log.specs.declared.entry.Entry.{Entry}
use Rattle.receipt_ledger.proofs.Removed.{not-contained, still-contained, was-contained}
use Rattle.receipt_ledger.specs.Counted.{AreMarked, is_handed}

-- Where nothing was asked for, nothing waits and nothing is logged.
pub new-counted : AreMarked new_small_machine [] []
new-counted = record {
  waits = λ r. (λ none. absurd none, λ there. let inside = there.1 in absurd (omega (arith, inside)));
  once = λ i j d before inside. absurd (omega (arith, inside));
  sized = refl;
  replies = λ number. (λ none. absurd none, λ waits. absurd (false≢true (sym waits)));
}

module _ (m : SmallMachine) (waiting : List Asked) (marks : List Bool) (counted : AreMarked m waiting marks) where
  -- A machine that is the same has the same counts.
  pub same-counted : (n : SmallMachine) → IsSame m n → AreMarked n waiting marks
  same-counted n same = record {
    waits = λ r. (
      λ waits. (counted.waits r).0 ((same.waiting r).1 waits),
      λ there. (same.waiting r).0 ((counted.waits r).1 there),
    );
    once = counted.once;
    sized = counted.sized ∙ ap (λ (log : List Entry). length log) same.log;
    replies = λ number. (
      λ named. (counted.replies number).0 ((same.replies number).1 named),
      λ marked. (same.replies number).0 ((counted.replies number).1 marked),
    );
  }

  -- A request that is accepted is one more that waits.
  pub accept-counted : (initial : ℕ → ℕ) (r : Asked) → Can m (accept r)
      → AreMarked (after initial m (accept r)) (waiting ++ r ∷ []) marks
  accept-counted initial r can = record {
    waits = λ other. (
      λ waits.
          ⊎_elim (λ before. Contains-append_left waiting (r ∷ []) other ((counted.waits other).0 before))
          (λ is. subst (Contains (waiting ++ r ∷ [])) (sym is) (Contains-push waiting r)) waits,
      λ there.
          ⊎_elim (λ before. inl ((counted.waits other).1 before)) (λ is. inr (sym is))
          (Contains-push_cases waiting r other there),
    );
    once =
        all_pairs_push (λ x y. x ≢ y) waiting r counted.once
        (λ k d inside is.
        let before = (counted.waits (get_or waiting k d)).1 (Contains-get_or waiting k d inside) in
        let older = can.1 (get_or waiting k d) before (ap (λ (x : Asked). x.core.0) is) in
        let same = ap (λ (x : Asked). x.seq) is in
        omega (arith, older, same));
    sized = counted.sized;
    replies = counted.replies;
  }

  -- A request that is performed waits no more, and its reply does.
  pub perform-counted : (initial : ℕ → ℕ) (r : Asked) → Can m (perform r)
      → (left : List Asked) × (length left + 1 ≡ length waiting)
      × AreMarked (after initial m (perform r)) left (marks ++ false ∷ [])
  perform-counted initial r can =
      let there = (counted.waits r).0 can.0 in
      let i = there.0 in (
        remove waiting i,
        length-remove waiting i there.1,
        record {
          waits = λ other. (
            λ waits.
                still-contained waiting i r there.1 there.2 counted.once other ((counted.waits other).0 waits.0)
                waits.1,
            λ left. (
              (counted.waits other).1 (was-contained waiting i r there.1 there.2 counted.once other left),
              not-contained waiting i r there.1 there.2 counted.once other left,
            ),
          );
          once = all_pairs_remove (λ x y. x ≢ y) waiting i there.1 counted.once;
          sized =
              length-append marks (false ∷ []) ∙ ap (λ n. n + 1) counted.sized
              ∙ sym (length-append m.log (entry_for initial m.log r ∷ []));
          replies = λ number. (
            λ named. ⊎_elim (λ before. marked-before number before) (λ is. marked-last number is) named,
            λ marked. by_place number marked (cases_lt number (length marks)),
          );
        },
      )
    where
      sized : length marks ≡ length m.log
      sized = counted.sized

      within : (number : ℕ) → is_handed marks number ≡ false → number < length marks
      within number marked =
          ⊎_elim (λ inside. inside)
          (λ past. absurd (false≢true (sym marked ∙ get_or_past marks number true past)))
          (cases_lt number (length marks))

      marked-before : (number : ℕ) → m.replies number → is_handed (marks ++ false ∷ []) number ≡ false
      marked-before number named =
          let marked = (counted.replies number).0 named in
          get_or_append_left marks (false ∷ []) true number (within number marked) ∙ marked

      marked-last : (number : ℕ) → number ≡ length m.log → is_handed (marks ++ false ∷ []) number ≡ false
      marked-last number is = get_or_push marks false true number (sized ∙ sym is)

      by_place : (number : ℕ) → is_handed (marks ++ false ∷ []) number ≡ false
          → (number < length marks) ⊎ (length marks ≤ number) → m.replies number ⊎ (number ≡ length m.log)
      by_place number marked (inl inside) =
          inl ((counted.replies number).1 (sym (get_or_append_left marks (false ∷ []) true number inside) ∙ marked))
      by_place number marked (inr past) =
          ⊎_elim (λ (is : number ≡ length marks). inr (is ∙ sized))
          (λ (other : number ≢ length marks).
          let long = length-append marks (false ∷ []) in
          absurd (false≢true
          (sym marked ∙ get_or_past (marks ++ false ∷ []) number true (omega (arith, past, other, long)))))
          (cases_eq number (length marks))

  -- A reply that is handed out waits no more.
  pub hand-counted : (initial : ℕ → ℕ) (given : ℕ) → Can m (hand given)
      → AreMarked (after initial m (hand given)) waiting (set marks given true)
  hand-counted initial given can = record {
    waits = counted.waits;
    once = counted.once;
    sized = length-set marks given true ∙ counted.sized;
    replies = λ number. (
      λ named.
          get_or-set_other marks given number true true named.1 ∙ (counted.replies number).0 named.0,
      λ marked.
          ⊎_elim
          (λ (is : number ≡ given). absurd (false≢true (sym marked ∙ ap (is_handed (set marks given true)) is ∙ out)))
          (λ (other : number ≢ given). (
            (counted.replies number).1 (sym (get_or-set_other marks given number true true other) ∙ marked),
            other,
          ))
          (cases_eq number given),
    );
  }
    where
      out : is_handed (set marks given true) given ≡ true
      out =
          ⊎_elim (λ inside. get_or-set_same marks given true true inside)
          (λ past. get_or_past (set marks given true) given true (let long = length-set marks given true in
          omega (arith, past, long)))
          (cases_lt given (length marks))
