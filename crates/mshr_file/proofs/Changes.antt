-- What adding and taking targets does to the misses, for callers of a file: lemmas over any lists of registers.
use Rattle.std.proofs.Common.{◌≡◌, ℕ, ◌≤◌, Bool, true, false, not, if◌then◌else◌, List, [], ◌∷◌, ◌++◌, refl, sym, ap}
use Rattle.std.proofs.Common.{⊎_elim, arith, ◌∙◌}
use Rattle.std.specs.Prelude.{All, IsTrue}
use Rattle.std.specs.List.{count_by}
use Rattle.std.proofs.lemmas.Bool.{cases_Bool}
use Rattle.std.proofs.lemmas.List.{append_assoc}
use Rattle.std.proofs.lemmas.List.Elements.{All-cons, All-nil}
use Rattle.std.proofs.lemmas.List.Sums.{sum_by-append, sum_by-cons}
use Rattle.target_list.specs.declared.target.Target.{Target}
use Rattle.mshr_file.specs.declared.registers.Register.{Register}
use Rattle.mshr_file.specs.Miss.{is_for, targets_in, targets_of, is_waited, has_miss, count_of, AddsTarget}
use Rattle.mshr_file.specs.Miss.{TakesTargets}
use Rattle.mshr_file.proofs.Lists.{count_by-yes, count_by-no}

-- Taking some targets of a line and then some more is taking all of these.
pub takes_then : (old now new : List Register) (line : ℕ) (first second : List Target) →
    TakesTargets old now line first →
    TakesTargets now new line second → TakesTargets old new line (first ++ second)
takes_then old now new line first second before after = record {
  here = before.here ∙ ap (λ targets. first ++ targets) after.here
      ∙ sym (append_assoc first second (targets_of new line));
  others = λ other differs. after.others other differs ∙ before.others other differs;
  counts = λ test.
      let one = before.counts test in
      let two = after.counts test in
      let both = sum_by-append (λ target. if test target then 1 else 0) first second in
      omega (arith, one, two, both);
  ordered = λ ordered. after.ordered (before.ordered ordered);
  once = λ once. after.once (before.once once);
}

-- A target that was added waits: its line has a register.
pub has_miss-added : (old new : List Register) (line : ℕ) (target : Target) → AddsTarget old new line target →
    has_miss new line ≡ true
has_miss-added old new line target adds = ap is_waited adds.here ∙ waits (targets_of old line)
  where
    waits : (targets : List Target) → is_waited (targets ++ target ∷ []) ≡ true
    waits [] = refl
    waits (first ∷ rest) = refl

-- What no target passes, no target passes after some were taken.
pub count_of-taken_none : (test : Target → Bool) (old new : List Register) (line : ℕ) (taken : List Target) →
    TakesTargets old new line taken → count_of test old ≡ 0 → count_of test new ≡ 0
count_of-taken_none test old new line taken takes none = let fewer = takes.counts test in omega (arith, fewer, none)

-- What no target passes, no target passes after one was added that doesn't pass.
pub count_of-added_none : (test : Target → Bool) (old new : List Register) (line : ℕ) (target : Target) →
    AddsTarget old new line target → test target ≡ false → count_of test old ≡ 0 → count_of test new ≡ 0
count_of-added_none test old new line target adds fails none =
    let more = adds.counts test in
    let one = count_by-no test target [] fails in
    omega (arith, more, one, none)

-- The targets of one line are among all targets: no test passes more of them.
pub count_of-line : (test : Target → Bool) (misses : List Register) (line : ℕ) →
    count_by test (targets_of misses line) ≤ count_of test misses
count_of-line test [] line = omega arith
count_of-line test (register ∷ misses) line =
    let later = count_of-line test misses line in
    let all = sum_by-cons {X = Register} (λ r. count_by test r.targets) register misses in
    let parts = sum_by-append (λ target. if test target then 1 else 0) (targets_in line register)
    (targets_of misses line) in
    let here = within register in
    omega (arith, later, all, parts, here)
  where
    within : (register : Register) → count_by test (targets_in line register) ≤ count_by test register.targets
    within register =
        ⊎_elim (λ for. rw for (omega arith)) (λ other. rw other (omega arith)) (cases_Bool (is_for line register))

-- Where no target fails a test, each target of each line passes it.
pub all_pass : (test : Target → Bool) (misses : List Register) (line : ℕ) →
    count_of (λ target. not (test target)) misses ≡ 0 →
    All (λ target. IsTrue (test target)) (targets_of misses line)
all_pass test misses line none =
    let fewer = count_of-line (λ target. not (test target)) misses line in
    passing (targets_of misses line) (omega (arith, fewer, none))
  where
    passing : (targets : List Target) → count_by (λ target. not (test target)) targets ≡ 0 →
        All (λ target. IsTrue (test target)) targets
    passing [] zero = All-nil _
    passing (target ∷ targets) zero =
        ⊎_elim
        (λ passes.
        let fails : not (test target) ≡ false = rw passes refl in
        let all = count_by-no (λ t. not (test t)) target targets fails in
        All-cons (λ t. IsTrue (test t)) target targets passes (passing targets (omega (arith, all, zero))))
        (λ fails.
        let counted : not (test target) ≡ true = rw fails refl in
        let all = count_by-yes (λ t. not (test t)) target targets counted in
        absurd (omega (arith, all, zero)))
        (cases_Bool (test target))
