-- Targets by the line that they wait for: one that passes a test is counted, and where one is counted, it is one target
-- of one line.
use Rattle.std.proofs.Common.{◌≡◌, ◌≢◌, ℕ, ◌+◌, ◌≤◌, Bool, true, List, [], ◌∷◌, refl, sym, ◌∙◌, subst, inl, inr, arith}
use Rattle.std.proofs.Common.{eq-eqb, eqb-true}
use Rattle.std.specs.Prelude.{count_by, Contains}
use Rattle.std.proofs.lemmas.Bool.{cases_Bool, cases_eq, cases_lt, ne_eqb}
use Rattle.std.proofs.lemmas.List.Elements.{Contains-append_left, Contains-append_right}
use Rattle.std.proofs.lemmas.List.Sums.{sum_by-append, sum_by-cons}
use Rattle.address_map.specs.declared.address.Local.{Local}
use Rattle.mshr_file.proofs.Changes.{count_of-line}
use Rattle.mshr_file.specs.Miss.{count_of, is_for, targets_in, targets_of}
use Rattle.mshr_file.specs.declared.registers.Register.{Register}
use Rattle.receipt_ledger.proofs.Picked.{count-contained, one-contained, one_if, picked}
use Rattle.target_list.specs.declared.target.Target.{Target}

module _ (p : Target → Bool) where
  -- how many of a register and of those after it pass
  count_of-cons : (register : Register) (misses : List Register)
      → count_of p (register ∷ misses) ≡ count_by p register.targets + count_of p misses
  count_of-cons register misses = sum_by-cons {X = Register} (λ r. count_by p r.targets) register misses

  count_by-parts : (register : Register) (misses : List Register) (line : ℕ)
      → count_by p (targets_of (register ∷ misses) line)
      ≡ count_by p (targets_in line register) + count_by p (targets_of misses line)
  count_by-parts register misses line =
      sum_by-append (λ target. one_if (p target)) (targets_in line register) (targets_of misses line)

  -- A target that passes is counted.
  pub target-counted : (misses : List Register) (line : ℕ) (target : Target) → Contains (targets_of misses line) target
      → p target ≡ true → 1 ≤ count_of p misses
  target-counted misses line target there passes =
      let here = count-contained p (targets_of misses line) target there passes in
      let among = count_of-line p misses line in
      omega (arith, here, among)

  -- Where some are counted, there is one.
  pub target-found : (misses : List Register) → 1 ≤ count_of p misses
      → (local : Local) × (target : Target) × Contains (targets_of misses local.0) target × (p target ≡ true)
  target-found [] some = absurd (omega (arith, some))
  target-found (register ∷ misses) some = elim (cases_lt 0 (count_by p register.targets)) [
    | inl here ↦
        let found = picked p register.targets (omega (arith, here)) in (
          register.line,
          found.0,
          Contains-append_left (targets_in register.line.0 register) (targets_of misses register.line.0) found.0
              (subst (λ targets. Contains targets found.0) (sym (own register)) found.1),
          found.2,
        )
    | inr none ↦
        let all = count_of-cons register misses in
        let found = target-found misses (omega (arith, some, none, all)) in (
          found.0,
          found.1,
          Contains-append_right (targets_in found.0.0 register) (targets_of misses found.0.0) found.1 found.2,
          found.3,
        )
  ]
    where
      own : (register : Register) → targets_in register.line.0 register ≡ register.targets
      own register = rw (eq-eqb register.line.0 register.line.0 refl) refl

  -- Those of two lines are counted side by side.
  two-lines : (misses : List Register) (one other : ℕ) → one ≢ other
      → count_by p (targets_of misses one) + count_by p (targets_of misses other) ≤ count_of p misses
  two-lines [] one other apart = omega arith
  two-lines (register ∷ misses) one other apart =
      let later = two-lines misses one other apart in
      let all = count_of-cons register misses in
      let first = count_by-parts register misses one in
      let second = count_by-parts register misses other in
      let here = within register in
      omega (arith, later, all, first, second, here)
    where
      within : (register : Register)
          → count_by p (targets_in one register) + count_by p (targets_in other register) ≤ count_by p register.targets
      within register = elim (cases_Bool (is_for one register)) [
        | inl for ↦
            let not_other = ne_eqb register.line.0 other (λ is. apart (sym (eqb-true register.line.0 one for) ∙ is)) in
            rw (for, not_other) (omega arith)
        | inr not_one ↦ elim (cases_Bool (is_for other register)) [
          | inl for ↦ rw (not_one, for) (omega arith)
          | inr not_other ↦ rw (not_one, not_other) (omega arith)
        ]
      ]

  -- Where at most one is counted, two that pass are one target of one line.
  pub one-target : (misses : List Register) (one other : Local) (first second : Target) → count_of p misses ≤ 1
      → Contains (targets_of misses one.0) first → Contains (targets_of misses other.0) second → p first ≡ true
      → p second ≡ true → (one.0 ≡ other.0) × (first ≡ second)
  one-target misses one other first second few in_one in_other passes_first passes_second =
      elim (cases_eq one.0 other.0) [
        | inl same ↦ (same, same-target (subst (λ line. Contains (targets_of misses line) second) (sym same) in_other))
        | inr apart ↦
            let both = two-lines misses one.0 other.0 apart in
            let a = count-contained p (targets_of misses one.0) first in_one passes_first in
            let b = count-contained p (targets_of misses other.0) second in_other passes_second in
            absurd (omega (arith, few, both, a, b))
      ]
    where
      same-target : Contains (targets_of misses one.0) second → first ≡ second
      same-target in_same =
          let among = count_of-line p misses one.0 in
          one-contained p (targets_of misses one.0) first second (omega (arith, few, among)) in_one in_same passes_first
          passes_second
