-- What is gathered from a port is given back to it: its requests, and its receipts' entries one by one.
use Rattle.std.proofs.Common.{◌≡◌, ℕ, ◌+◌, ◌<◌, List, [], ◌∷◌, ◌++◌, length, take, drop, get_or, sym, ap, ◌∙◌}
use Rattle.std.proofs.Common.{zero-add}
use Rattle.std.proofs.lemmas.List.{drop_more, map-append, take_more}
use Rattle.address_map.specs.declared.address.WordAddr.{WordAddr}
use Rattle.receipt_ledger.proofs.Totals.{together_assoc, together_cancel, together_comm, together_nothing}
use Rattle.receipt_ledger.proofs.Totals.{totals_accepted, totals_cons, totals_nil, totals_push, within_together}
use Rattle.receipt_ledger.specs.Port.{entries_of}
use Rattle.receipt_ledger.specs.Totals.{IsWithin, Totals, nothing, only_accepted, only_handed, together, totals}
use Rattle.receipt_ledger.specs.declared.receipt.Receipt.{Receipt}

-- the second and the third change places
swapped : (t u v : Totals) → together (together t u) v ≡ together (together t v) u
swapped t u v = together_assoc t u v ∙ ap (together t) (together_comm u v) ∙ sym (together_assoc t v u)

module _ (words : List WordAddr) where
  only : (n : ℕ) → totals words n [] ≡ only_accepted n
  only n =
      ap (λ k. totals words k []) (sym (zero-add n))
      ∙ totals_accepted words 0 n [] ∙ ap (λ t. together t (only_accepted n)) (totals_nil words)
      ∙ together_comm nothing (only_accepted n) ∙ together_nothing (only_accepted n)

  -- The first `given` receipts of a port were given back: its requests and their entries are what the one has less and
  -- the other more, and the entries of the others are still there to give.
  pub record GivesBack (accepted : ℕ) (receipts : List Receipt) (given : ℕ) (whole left got : Totals) : Type 0 where
    pub sum : together left (totals words accepted (entries_of (take given receipts))) ≡ whole
    pub got_is : got ≡ totals words accepted (entries_of (take given receipts))
    pub others : Totals
    pub left_is : left ≡ together others (totals words 0 (entries_of (drop given receipts)))

  -- At first the requests alone are given.
  pub gives-first : (accepted : ℕ) (receipts : List Receipt) (rest whole left got : Totals)
      → whole ≡ together rest (totals words accepted (entries_of receipts))
      → together left (only_accepted accepted) ≡ whole
      → got ≡ together nothing (only_accepted accepted) → GivesBack accepted receipts 0 whole left got
  gives-first accepted receipts rest whole left got is sum got_is = record {
    sum = ap (together left) (only accepted) ∙ sum;
    got_is = got_is ∙ together_comm nothing (only_accepted accepted) ∙ together_nothing (only_accepted accepted)
        ∙ sym (only accepted);
    others = rest;
    left_is =
        together_cancel left (together rest (totals words 0 (entries_of receipts))) (only_accepted accepted)
        (sum ∙ is
        ∙ ap (λ k. together rest (totals words k (entries_of receipts))) (sym (zero-add accepted))
        ∙ ap (together rest) (totals_accepted words 0 accepted (entries_of receipts))
        ∙ sym (together_assoc rest (totals words 0 (entries_of receipts)) (only_accepted accepted)));
  }

  module _ (accepted : ℕ) (receipts : List Receipt) (given : ℕ) (whole left got : Totals) (r : Receipt)
      (gives : GivesBack accepted receipts given whole left got) (within : given < length receipts)
      (at : r ≡ get_or receipts given r) where
    -- what is left ends with the next entry
    next : left
        ≡ together (together gives.others (totals words 0 (entries_of (drop (given + 1) receipts))))
        (only_handed words r.entry)
    next =
        gives.left_is
        ∙ ap (λ (rs : List Receipt). together gives.others (totals words 0 (entries_of rs)))
        (drop_more receipts given r within ∙ ap (λ first. first ∷ drop (given + 1) receipts) (sym at))
        ∙ ap (together gives.others) (totals_cons words 0 (entries_of (drop (given + 1) receipts)) r.entry)
        ∙ sym (together_assoc gives.others (totals words 0 (entries_of (drop (given + 1) receipts)))
        (only_handed words r.entry))

    pub gives-enough : IsWithin (only_handed words r.entry) left
    gives-enough =
        rw next (within_together (only_handed words r.entry)
        (together gives.others (totals words 0 (entries_of (drop (given + 1) receipts)))))

    more : totals words accepted (entries_of (take (given + 1) receipts))
        ≡ together (totals words accepted (entries_of (take given receipts))) (only_handed words r.entry)
    more =
        ap (λ (rs : List Receipt). totals words accepted (entries_of rs))
        (take_more receipts given r within ∙ ap (λ last. take given receipts ++ last ∷ []) (sym at))
        ∙ ap (totals words accepted) (map-append (λ (q : Receipt). q.entry) (take given receipts) (r ∷ []))
        ∙ totals_push words accepted (entries_of (take given receipts)) r.entry

    pub gives-more : (fewer greater : Totals) → together fewer (only_handed words r.entry) ≡ left
        → greater ≡ together got (only_handed words r.entry)
        → GivesBack accepted receipts (given + 1) whole fewer greater
    gives-more fewer greater sum got_more = record {
      sum =
          ap (together fewer) more
          ∙ sym (together_assoc fewer (totals words accepted (entries_of (take given receipts)))
          (only_handed words r.entry))
          ∙ swapped fewer (totals words accepted (entries_of (take given receipts))) (only_handed words r.entry)
          ∙ ap (λ t. together t (totals words accepted (entries_of (take given receipts)))) sum
          ∙ gives.sum;
      got_is = got_more ∙ ap (λ t. together t (only_handed words r.entry)) gives.got_is ∙ sym more;
      others = gives.others;
      left_is =
          together_cancel fewer (together gives.others (totals words 0 (entries_of (drop (given + 1) receipts))))
          (only_handed words r.entry) (sum ∙ next);
    }
