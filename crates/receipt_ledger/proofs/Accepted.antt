-- A book counts as accepted what waits and what was performed, and so what each core had accepted.
use Rattle.std.proofs.Common.{◌≡◌, ℕ, zero, suc, ◌+◌, ◌<◌, ◌≤◌, Bool, true, false, List, [], ◌∷◌, ◌++◌, length, get_or}
use Rattle.std.proofs.Common.{take, refl, sym, ap, ◌∙◌, subst, inl, inr, arith, eq-eqb, eqb-true}
use Rattle.std.specs.Prelude.{◌==◌, nat_lt, count_by, All, Contains}
use Rattle.std.proofs.Math.Seq.{take-length, take-suc}
use Rattle.std.proofs.lemmas.Bool.{and_from, and_parts, cases_Bool, cases_lt}
use Rattle.std.proofs.lemmas.List.{get_or_past}
use Rattle.std.proofs.lemmas.List.Elements.{Contains-get_or}
use Rattle.address_map.specs.declared.address.CoreId.{CoreId}
use Rattle.address_map.specs.declared.address.Local.{Local}
use Rattle.mshr_file.specs.Miss.{count_of, targets_of}
use Rattle.receipt_ledger.proofs.Numbered.{as-many, below, below-all, below-more, below-none, numbered}
use Rattle.receipt_ledger.proofs.Picked.{at_most_one, count-all, count-at, count-contained, count-none, one-picked}
use Rattle.receipt_ledger.proofs.Picked.{one_if}
use Rattle.receipt_ledger.proofs.Targets.{one-target, target-counted, target-found}
use Rattle.receipt_ledger.specs.Accepted.{AcceptedAreTheCores, accepted_by}
use Rattle.receipt_ledger.specs.Counted.{AreMarked}
use Rattle.receipt_ledger.specs.Totals.{Totals}
use Rattle.slice_core.specs.Facts.{IsStanding}
use Rattle.slice_core_cache.specs.CoreCache.{CoreCacheView}
use Rattle.slice_core_theory.proofs.Kept.{same_core}
use Rattle.slice_core_theory.specs.SmallMachine.{Asked}
use Rattle.slice_core_theory.specs.Shows.{Waits, request_of_target, small_machine_of}
use Rattle.slice_core_spec.specs.View.{View, first_word, no_cache, cache_at}
use Rattle.slice_core_theory.specs.Standing.{has_seq, is_of}
use Rattle.slice_log.specs.declared.entry.Entry.{Entry}
use Rattle.target_list.specs.declared.target.Target.{Target}

-- the request is one of the core's
abbrev is_by : ℕ → Asked → Bool
is_by core r = r.core.0 == core

accepted_by-push : (caches : List CoreCacheView) (cache : CoreCacheView)
    → accepted_by (caches ++ cache ∷ []) ≡ accepted_by caches + cache.accepted
accepted_by-push [] cache = omega arith
accepted_by-push (first ∷ caches) cache = let later = accepted_by-push caches cache in omega (arith, later)

module _ (v : View) (standing : IsStanding v) (waiting : List Asked) (marks : List Bool)
    (counted : AreMarked (small_machine_of v) waiting marks) where
  -- A request of the core that waits is one of the core's targets.
  record IsTarget (core : CoreId) (r : Asked) : Type 0 where
    local : Local
    target : Target
    there : Contains (targets_of (cache_at v core).misses local.0) target
    same : r ≡ request_of_target (first_word v local) core target

  is-target : (core : CoreId) (r : Asked) → Contains waiting r → is_by core.0 r ≡ true → IsTarget core r
  is-target core r listed by = subst (λ c. IsTarget c r) (same_core r.core core (eqb-true r.core.0 core.0 by)) own
    where
      own : IsTarget r.core r
      own = let waits = (counted.waits r).1 listed in record {
        local = waits.local;
        target = waits.target;
        there = waits.there;
        same = waits.same;
      }

  module _ (core : CoreId) (seq : ℕ) where
    abbrev test : Asked → Bool
    test = numbered (is_by core.0) (λ r. r.seq) seq

    few : count_of (has_seq seq) (cache_at v core).misses ≤ 1
    few =
        let once = standing.once core seq in
        let most = at_most_one (nat_lt seq (cache_at v core).accepted) in
        omega (arith, once, most)

    passes : (r : Asked) (is : IsTarget core r) → test r ≡ true → has_seq seq is.target ≡ true
    passes r is picked =
        let numbered = (and_parts (is_by core.0 r) (r.seq == seq) picked).1 in
        ap (λ n. n == seq) (sym (ap (λ (a : Asked). a.seq) is.same)) ∙ numbered

    of : (r : Asked) → Contains waiting r → test r ≡ true → IsTarget core r
    of r listed picked = is-target core r listed (and_parts (is_by core.0 r) (r.seq == seq) picked).0

    -- Two requests of one number are one.
    same : (r other : Asked) → Contains waiting r → Contains waiting other → test r ≡ true → test other ≡ true
        → r ≡ other
    same r other in_r in_other picked also =
        let first = of r in_r picked in
        let second = of other in_other also in
        let one = one-target (has_seq seq) (cache_at v core).misses first.local second.local first.target second.target
        few first.there second.there (passes r first picked) (passes other second also) in
        let at : ℕ → Target → Asked = λ n target. request_of_target (first_word v (record { 0 = n })) core target in
        first.same ∙ ap (λ n. at n first.target) one.0 ∙ ap (at second.local.0) one.1 ∙ sym second.same

    -- A number waits as often as targets have it.
    waits-as-targets : count_by test waiting ≡ count_of (has_seq seq) (cache_at v core).misses
    waits-as-targets = elim (cases_lt 0 (count_of (has_seq seq) (cache_at v core).misses)) [
      | inl some ↦
          let found = target-found (has_seq seq) (cache_at v core).misses (omega (arith, some)) in
          let r = request_of_target (first_word v found.0) core found.1 in
          let waits : Waits v r = record { local = found.0; target = found.1; there = found.2; same = refl } in
          let listed = (counted.waits r).0 waits in
          let least = count-contained test waiting r listed (and_from _ _ (eq-eqb core.0 core.0 refl) found.3) in
          let most = one-picked test waiting counted.once same in
          omega (arith, least, most, some, few)
      | inr none ↦
          let all = count-none test waiting
          (λ k d inside. fails (get_or waiting k d) (Contains-get_or waiting k d inside) none) in
          omega (arith, all, none)
    ]
      where
        fails : (r : Asked) → Contains waiting r → count_of (has_seq seq) (cache_at v core).misses ≤ 0 → test r ≡ false
        fails r listed none = elim (cases_Bool (test r)) [
          | inl picked ↦
              let is = of r listed picked in
              let here = target-counted (has_seq seq) (cache_at v core).misses is.local.0 is.target is.there
              (passes r is picked) in
              absurd (omega (arith, here, none))
          | inr not ↦ not
        ]

    -- It waits or was performed where it was accepted, once.
    stands : count_by test waiting + count_by (numbered (is_of core.0) (λ e. e.seq) seq) v.log
        ≡ one_if (nat_lt seq (cache_at v core).accepted)
    stands =
        let once = standing.once core seq in
        let waits = waits-as-targets in
        omega (arith, once, waits)

  -- What a core had accepted waits or was performed.
  of-core : (core : CoreId)
      → count_by (is_by core.0) waiting + count_by (is_of core.0) v.log ≡ (cache_at v core).accepted
  of-core core =
      as-many (is_by core.0) (λ r. r.seq) (is_of core.0) (λ e. e.seq) waiting v.log (cache_at v core).accepted
      (stands core)

  -- the core of a number
  abbrev core_of : ℕ → CoreId
  core_of n = record { 0 = n }

  -- A core that isn't there had nothing accepted.
  known : (core : ℕ) → 1 ≤ (cache_at v (core_of core)).accepted → core < length v.caches
  known core some = elim (cases_lt core (length v.caches)) [
    | inl inside ↦ inside
    | inr past ↦
        let none = ap (λ (s : CoreCacheView). s.accepted) (get_or_past v.caches core no_cache past) in
        absurd (omega (arith, some, none))
  ]

  -- What the cores below this one had accepted waits or was performed.
  up-to : (n : ℕ) → n ≤ length v.caches
      → count_by (below (λ r. true) (λ r. r.core.0) n) waiting + count_by (below (λ e. true) (λ e. e.core.0) n) v.log
      ≡ accepted_by (take n v.caches)
  up-to zero within =
      let first = below-none (λ (r : Asked). true) (λ r. r.core.0) waiting in
      let second = below-none (λ (e : Entry). true) (λ e. e.core.0) v.log in
      omega (arith, first, second)
  up-to (suc n) within =
      let before = up-to n (omega (arith, within)) in
      let first = below-more (λ (r : Asked). true) (λ r. r.core.0) n waiting in
      let second = below-more (λ (e : Entry). true) (λ e. e.core.0) n v.log in
      let here = of-core (core_of n) in
      let cache = cache_at v (core_of n) in
      let taken =
      ap accepted_by (take-suc v.caches n no_cache (omega (arith, within)))
      ∙ accepted_by-push (take n v.caches) cache in
      omega (arith, before, first, second, here, taken)

  -- No other core has anything.
  all : length waiting + length v.log ≡ accepted_by v.caches
  all =
      let whole = up-to (length v.caches) (omega arith) in
      let first = below-all (λ (r : Asked). true) (λ r. r.core.0) (length v.caches) waiting waiting-known in
      let second = below-all (λ (e : Entry). true) (λ e. e.core.0) (length v.caches) v.log logged-known in
      let caches = ap accepted_by (take-length v.caches) in
      let these = count-all waiting in
      let those = count-all v.log in
      omega (arith, whole, first, second, caches, these, those)
    where
      waiting-known : All (λ r. true ≡ true → r.core.0 < length v.caches) waiting
      waiting-known k d inside passes =
          let r = get_or waiting k d in
          let here = count-at (is_by r.core.0) waiting k d inside (eq-eqb r.core.0 r.core.0 refl) in
          let whole = of-core r.core in
          known r.core.0 (omega (arith, here, whole))

      logged-known : All (λ e. true ≡ true → e.core.0 < length v.caches) v.log
      logged-known k d inside passes =
          let e = get_or v.log k d in
          let here = count-at (is_of e.core.0) v.log k d inside (eq-eqb e.core.0 e.core.0 refl) in
          let whole = of-core e.core in
          known e.core.0 (omega (arith, here, whole))

pub accepted_are_the_cores : AcceptedAreTheCores
accepted_are_the_cores c number t p tied holds =
    let booked = tied.booked in
    ap (λ (u : Totals). u.accepted) booked.totals_are
    ∙ all p.view holds.standing booked.waiting booked.marks booked.counted
