-- What the misses of a table are after one register has changed.
use Rattle.std.proofs.Common.{◌≡◌, ◌≢◌, ℕ, ◌+◌, ◌<◌, ◌≤◌, zero, suc, replicate, Bool, true, false, if◌then◌else◌, List}
use Rattle.std.proofs.Common.{[], ◌∷◌, ◌++◌, length, get_or, set, refl, sym, ap, ⊎_elim, arith, ◌∙◌}
use Rattle.std.specs.List.{count_by, list_any}
use Rattle.std.proofs.lemmas.Bool.{cases_eq, eqb-true}
use Rattle.std.proofs.lemmas.List.{get_or-set_same}
use Rattle.std.proofs.lemmas.List.Sums.{sum_by-set, sum_by-append, length-filter}
use Rattle.target_list.specs.declared.target.Target.{Target}
use Rattle.mshr_file.specs.Miss.{is_for, targets_of, is_waited, has_miss, count_of, IsMissFile, AddsTarget}
use Rattle.mshr_file.specs.Miss.{TakesTargets}
use Rattle.mshr_file.specs.declared.registers.Register.{Register}
use Rattle.mshr_file.specs.Register.{misses_of, serves, no_register, HasEachLineOnce}
use Rattle.mshr_file.proofs.Laws.{order_added, order_taken, once_added, once_taken}
use Rattle.mshr_file.proofs.Lists.{count_by-filter, filter_passes, one-if}
use Rattle.mshr_file.proofs.Table.{IsRegisterOf, waits_in, changed, waits_elsewhere, targets_of-misses, count_of-misses}
use Rattle.mshr_file.proofs.Table.{found, nothing_waits, in_free, served_in, served_for, for_another, counts_one}
use Rattle.mshr_file.proofs.Table.{counts_none, free_serves}

count_by-append : (test : Target → Bool) (front back : List Target) →
    count_by test (front ++ back) ≡ count_by test front + count_by test back
count_by-append test front back = sum_by-append (λ target. if test target then 1 else 0) front back

-- of each kind there are more or fewer by what the register gained or lost
counts-change : (test : Target → Bool) (registers : List Register) (i : ℕ) (register : Register) →
    i < length registers →
    count_of test (misses_of (set registers i register)) + count_by test (get_or registers i no_register).targets
    ≡ count_of test (misses_of registers) + count_by test register.targets
counts-change test registers i register inside =
    let old = count_of-misses test registers in
    let new = count_of-misses test (set registers i register) in
    let total = sum_by-set (λ r. count_by test r.targets) registers i register no_register inside in
    omega (arith, old, new, total)

-- the targets of the line are then those of the register
pub left : (registers : List Register) (i line : ℕ) (register : Register) → IsRegisterOf registers i line →
    register.line.0 ≡ line →
    targets_of (misses_of (set registers i register)) line ≡ register.targets
left registers i line register home for =
    targets_of-misses (set registers i register) line
    ∙ waits_in (set registers i register) i line (changed registers i line register home for)
    ∙ ap (λ r. r.targets) (get_or-set_same registers i register no_register home.inside)

pub adds : (registers : List Register) (i line : ℕ) (register : Register) (target : Target) →
    IsRegisterOf registers i line →
    register.line.0 ≡ line → register.targets ≡ (get_or registers i no_register).targets ++ target ∷ [] →
    AddsTarget (misses_of registers) (misses_of (set registers i register)) line target
adds registers i line register target home for pushed = record {
  here = here;
  others = others;
  counts = counts;
  ordered = order_added (misses_of registers) (misses_of (set registers i register)) line target here others;
  once = once_added (misses_of registers) (misses_of (set registers i register)) target counts;
}
  where
    here : targets_of (misses_of (set registers i register)) line ≡ targets_of (misses_of registers) line ++ target ∷ []
    here =
        left registers i line register home for
        ∙ pushed
        ∙ ap (λ targets. targets ++ target ∷ [])
        (sym (targets_of-misses registers line ∙ waits_in registers i line home))

    others : (other : ℕ) → other ≢ line → targets_of (misses_of (set registers i register)) other
        ≡ targets_of (misses_of registers) other
    others other differs =
        targets_of-misses (set registers i register) other
        ∙ waits_elsewhere registers i line register home for other differs
        ∙ sym (targets_of-misses registers other)

    counts : (test : Target → Bool) → count_of test (misses_of (set registers i register))
        ≡ count_of test (misses_of registers) + count_by test (target ∷ [])
    counts test =
        let change = counts-change test registers i register home.inside in
        let more =
        ap (count_by test) pushed ∙ count_by-append test (get_or registers i no_register).targets (target ∷ []) in
        omega (arith, change, more)

pub takes : (registers : List Register) (i line : ℕ) (register : Register) (taken : List Target) →
    IsRegisterOf registers i line →
    register.line.0 ≡ line → (get_or registers i no_register).targets ≡ taken ++ register.targets →
    TakesTargets (misses_of registers) (misses_of (set registers i register)) line taken
takes registers i line register taken home for whole = record {
  here = here;
  others = others;
  counts = counts;
  ordered = order_taken (misses_of registers) (misses_of (set registers i register)) line taken here others;
  once = once_taken (misses_of registers) (misses_of (set registers i register)) taken counts;
}
  where
    here : targets_of (misses_of registers) line ≡ taken ++ targets_of (misses_of (set registers i register)) line
    here =
        targets_of-misses registers line
        ∙ waits_in registers i line home
        ∙ whole
        ∙ ap (λ targets. taken ++ targets) (sym (left registers i line register home for))

    others : (other : ℕ) → other ≢ line → targets_of (misses_of (set registers i register)) other
        ≡ targets_of (misses_of registers) other
    others other differs =
        targets_of-misses (set registers i register) other
        ∙ waits_elsewhere registers i line register home for other differs
        ∙ sym (targets_of-misses registers other)

    counts : (test : Target → Bool) →
        count_of test (misses_of registers) ≡ count_of test (misses_of (set registers i register)) + count_by test taken
    counts test =
        let change = counts-change test registers i register home.inside in
        let fewer = ap (count_by test) whole ∙ count_by-append test taken register.targets in
        omega (arith, change, fewer)

-- No line has two registers afterwards.
pub single_after : (registers : List Register) (i line : ℕ) (register : Register) → IsRegisterOf registers i line →
    register.line.0 ≡ line → HasEachLineOnce registers →
    HasEachLineOnce (set registers i register)
single_after registers i line register home for single = record { once = once_after }
  where
    at_most_one : (b : Bool) → (if b then 1 else 0) ≤ 1
    at_most_one true = omega arith
    at_most_one false = omega arith

    once_after : (other : ℕ) → count_by (serves other) (set registers i register) ≤ 1
    once_after other =
        ⊎_elim
        (λ same.
        let after = changed registers i line register home for in
        let alone = after.alone in
        let few = at_most_one (serves line (get_or (set registers i register) i no_register)) in
        rw same (omega (arith, alone, few)))
        (λ differs.
        let total = sum_by-set (λ r. if serves other r then 1 else 0) registers i register no_register home.inside in
        let old = one-if _ false (home.others other differs) in
        let after = changed registers i line register home for in
        let here = get_or-set_same registers i register no_register home.inside in
        let new = one-if _ false (ap (serves other) (sym here) ∙ after.others other differs) in
        let before = single.once other in
        omega (arith, total, old, new, before))
        (cases_eq other line)

-- The open registers are misses, no line twice.
pub sound : (registers : List Register) → HasEachLineOnce registers → IsMissFile (misses_of registers)
sound registers single = record {
  single = λ line.
      let same = count_by-filter (is_for line) (λ register. is_waited register.targets) registers in
      let few = single.once line in
      omega (arith, same, few);
  waited = filter_passes (λ register. is_waited register.targets) registers;
}

-- how many registers are open, after one has changed
pub open_after : (registers : List Register) (i : ℕ) (register : Register) → i < length registers →
    length (misses_of (set registers i register)) + (if is_waited (get_or registers i no_register).targets then 1
    else 0)
    ≡ length (misses_of registers) + (if is_waited register.targets then 1 else 0)
open_after registers i register inside =
    let used = λ (r : Register). is_waited r.targets in
    let old = length-filter used registers in
    let new = length-filter used (set registers i register) in
    let total = sum_by-set (λ r. if used r then 1 else 0) registers i register no_register inside in
    omega (arith, old, new, total)

pub line_of : (line : ℕ) (register : Register) → serves line register ≡ true → register.line.0 ≡ line
line_of line register serving = eqb-true _ _ (served_for line register serving)

pub waits_for : (registers : List Register) (i line : ℕ) → IsRegisterOf registers i line →
    targets_of (misses_of registers) line ≡ (get_or registers i no_register).targets
waits_for registers i line home = targets_of-misses registers line ∙ waits_in registers i line home

-- A register that serves a line is the one for it.
pub register_serving : (registers : List Register) (i line : ℕ) → HasEachLineOnce registers → i < length registers →
    serves line (get_or registers i no_register) ≡ true → IsRegisterOf registers i line
register_serving registers i line single inside serving = record {
  inside = inside;
  own = served_in line (get_or registers i no_register) serving;
  alone =
      let least = counts_one registers i line inside serving in
      let most = single.once line in
      let one = one-if _ true serving in
      omega (arith, least, most, one);
  others = λ other differs. for_another line other (get_or registers i no_register)
      (line_of line (get_or registers i no_register) serving) differs;
}

-- A free register is one for a line that none serves.
pub register_free : (registers : List Register) (i line : ℕ) → i < length registers →
    is_waited (get_or registers i no_register).targets ≡ false →
    is_waited (targets_of registers line) ≡ false → IsRegisterOf registers i line
register_free registers i line inside free nobody = record {
  inside = inside;
  own = in_free line (get_or registers i no_register) free
      ∙ sym (nothing_waits (get_or registers i no_register).targets free);
  alone =
      let none = counts_none registers line (found registers line ∙ nobody) in
      let not = one-if _ false (free_serves line (get_or registers i no_register) free) in
      omega (arith, none, not);
  others = λ other differs. free_serves other (get_or registers i no_register) free;
}

-- Whether there is a miss for a line is whether a register serves it.
pub has_miss_is : (registers : List Register) (line : ℕ) →
    list_any (serves line) registers ≡ has_miss (misses_of registers) line
has_miss_is registers line = found registers line ∙ ap is_waited (sym (targets_of-misses registers line))

-- A table of free registers has no miss.
pub none_open : (count : ℕ) → misses_of (replicate count no_register) ≡ []
none_open zero = refl
none_open (suc count) = none_open count
