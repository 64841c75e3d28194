-- Entries by their lines: what waits for a line, how many registers there are, and how both change with the entries.
use Rattle.std.proofs.Common.{◌≡◌, ◌≢◌, ℕ, ◌+◌, ◌≤◌, ◌==◌, Bool, true, false, not, if◌then◌else◌, List, [], ◌∷◌, ◌++◌}
use Rattle.std.proofs.Common.{refl, sym, ap, ⊎_elim, arith, ◌∙◌}
use Rattle.std.specs.Prelude.{sum_by, All, IsTrue}
use Rattle.std.specs.List.{count_by}
use Rattle.std.proofs.lemmas.Bool.{cases_Bool, cases_eq, eq-eqb, ne_eqb, eqb-true}
use Rattle.std.proofs.lemmas.List.Elements.{All-cons, All-nil, All-head, All-tail}
use Rattle.std.proofs.lemmas.List.Sums.{sum_by-append, sum_by-cons}
use Rattle.target_list.specs.declared.target.Target.{Target}
use Rattle.mshr_file.specs.declared.registers.Register.{Register}
use Rattle.mshr_file.specs.declared.waiting.Waiting.{Waiting}
use Rattle.mshr_file.specs.Miss.{is_for, targets_in, targets_of, is_waited, count_of, IsMissFile}
use Rattle.mshr_file.specs.Waiting.{at_line, put_first, by_line, count_at}
use Rattle.mshr_file.proofs.Lists.{count_by-yes, count_by-no}

for-line : (line : ℕ) (register : Register) → register.line.0 ≡ line → targets_in line register ≡ register.targets
for-line line register for = let is : is_for line register ≡ true = eq-eqb register.line.0 line for in rw is refl

targets_of-put_first : (entry : Waiting) (registers : List Register) →
    targets_of (put_first entry registers) entry.line.0 ≡ entry.target ∷ targets_of registers entry.line.0
unfolding put_first
targets_of-put_first entry [] =
    let is : (entry.line.0 == entry.line.0) ≡ true = eq-eqb entry.line.0 entry.line.0 refl in rw is refl
targets_of-put_first entry (register ∷ registers) =
    ⊎_elim
    (λ here.
    let for = eqb-true register.line.0 entry.line.0 here in
    let longer =
    for-line entry.line.0 (record { targets = entry.target ∷ register.targets; line = register.line }) for in
    let rest = targets_of registers entry.line.0 in
    rw here (ap (λ targets. targets ++ rest) longer))
    (λ elsewhere. rw elsewhere (rw elsewhere (targets_of-put_first entry registers)))
    (cases_Bool (register.line.0 == entry.line.0))

targets_of-put_other : (entry : Waiting) (registers : List Register) (line : ℕ) → line ≢ entry.line.0 →
    targets_of (put_first entry registers) line ≡ targets_of registers line
unfolding put_first
targets_of-put_other entry [] line differs =
    let not : (entry.line.0 == line) ≡ false = ne_eqb entry.line.0 line (λ same. differs (sym same)) in rw not refl
targets_of-put_other entry (register ∷ registers) line differs =
    ⊎_elim
    (λ here.
    let for = eqb-true register.line.0 entry.line.0 here in
    let not : (register.line.0 == line) ≡ false = ne_eqb register.line.0 line (λ same. differs (sym same ∙ for)) in
    rw here (rw not refl))
    (λ elsewhere.
    rw elsewhere
    (ap (λ targets. targets_in line register ++ targets) (targets_of-put_other entry registers line differs)))
    (cases_Bool (register.line.0 == entry.line.0))

-- What waits for a line is the targets of its entries, in their order.
pub waits_at : (entries : List Waiting) (line : ℕ) → targets_of (by_line entries) line ≡ at_line line entries
unfolding by_line
waits_at [] line = refl
waits_at (entry ∷ entries) line =
    ⊎_elim
    (λ same.
    let is : (entry.line.0 == line) ≡ true = eq-eqb entry.line.0 line (sym same) in
    let there : targets_of (put_first entry (by_line entries)) line ≡ entry.target ∷ targets_of (by_line entries) line =
    rw same (targets_of-put_first entry (by_line entries)) in
    there ∙ ap (λ targets. entry.target ∷ targets) (waits_at entries line) ∙ kept entry entries line is)
    (λ differs.
    let not : (entry.line.0 == line) ≡ false = ne_eqb entry.line.0 line (λ same. differs (sym same)) in
    targets_of-put_other entry (by_line entries) line differs ∙ waits_at entries line ∙ passed entry entries line not)
    (cases_eq line entry.line.0)
  where
    kept : (entry : Waiting) (entries : List Waiting) (line : ℕ) → (entry.line.0 == line) ≡ true →
        entry.target ∷ at_line line entries ≡ at_line line (entry ∷ entries)
    kept entry entries line is = rw is refl

    passed : (entry : Waiting) (entries : List Waiting) (line : ℕ) → (entry.line.0 == line) ≡ false →
        at_line line entries ≡ at_line line (entry ∷ entries)
    passed entry entries line not = rw not refl

count_of-put_first : (test : Target → Bool) (entry : Waiting) (registers : List Register) →
    count_of test (put_first entry registers) ≡ count_by test (entry.target ∷ []) + count_of test registers
unfolding put_first
count_of-put_first test entry [] =
    sum_by-cons {X = Register} (λ register. count_by test register.targets)
    (record { targets = entry.target ∷ []; line = entry.line }) []
count_of-put_first test entry (register ∷ registers) =
    let count = λ (r : Register). count_by test r.targets in
    let old = sum_by-cons count register registers in
    ⊎_elim
    (λ here.
    let longer : Register = record { targets = entry.target ∷ register.targets; line = register.line } in
    let new = sum_by-cons count longer registers in
    let more = sum_by-append (λ target. if test target then 1 else 0) (entry.target ∷ []) register.targets in
    let is : put_first entry (register ∷ registers) ≡ longer ∷ registers = rw here refl in
    ap (sum_by count) is ∙ (omega (arith, old, new, more)))
    (λ elsewhere.
    let later = count_of-put_first test entry registers in
    let new = sum_by-cons count register (put_first entry registers) in
    let is : put_first entry (register ∷ registers) ≡ register ∷ put_first entry registers = rw elsewhere refl in
    ap (sum_by count) is ∙ (omega (arith, old, new, later)))
    (cases_Bool (register.line.0 == entry.line.0))

-- A test passes the same number of targets of the registers as of the entries.
pub counts_at : (test : Target → Bool) (entries : List Waiting) →
    count_of test (by_line entries) ≡ count_at test entries
unfolding by_line
counts_at test [] = refl
counts_at test (entry ∷ entries) =
    let first = count_of-put_first test entry (by_line entries) in
    let later = counts_at test entries in
    let all = sum_by-cons (λ e. if test e.target then 1 else 0) entry entries in
    let one = sum_by-cons (λ target. if test target then 1 else 0) entry.target [] in
    omega (arith, first, later, all, one)

-- how many registers are for a line, after one more target
single-put_other : (entry : Waiting) (registers : List Register) (line : ℕ) → line ≢ entry.line.0 →
    count_by (is_for line) (put_first entry registers) ≡ count_by (is_for line) registers
unfolding put_first
single-put_other entry [] line differs =
    count_by-no (is_for line) (record { targets = entry.target ∷ []; line = entry.line }) []
    (ne_eqb entry.line.0 line (λ same. differs (sym same)))
single-put_other entry (register ∷ registers) line differs =
    ⊎_elim
    (λ here.
    let for = eqb-true register.line.0 entry.line.0 here in
    let not_for : (register.line.0 == line) ≡ false = ne_eqb register.line.0 line (λ same. differs (sym same ∙ for)) in
    let longer : Register = record { targets = entry.target ∷ register.targets; line = register.line } in
    let is : put_first entry (register ∷ registers) ≡ longer ∷ registers = rw here refl in
    ap (count_by (is_for line)) is
    ∙ count_by-no (is_for line) longer registers not_for
    ∙ sym (count_by-no (is_for line) register registers not_for))
    (λ elsewhere.
    let later = single-put_other entry registers line differs in
    let is : put_first entry (register ∷ registers) ≡ register ∷ put_first entry registers = rw elsewhere refl in
    let new = sum_by-cons (λ r. if is_for line r then 1 else 0) register (put_first entry registers) in
    let old = sum_by-cons (λ r. if is_for line r then 1 else 0) register registers in
    ap (count_by (is_for line)) is ∙ omega (arith, later, new, old))
    (cases_Bool (register.line.0 == entry.line.0))

single-put_first : (entry : Waiting) (registers : List Register) → count_by (is_for entry.line.0) registers ≤ 1 →
    count_by (is_for entry.line.0) (put_first entry registers) ≡ 1
unfolding put_first
single-put_first entry [] few =
    count_by-yes (is_for entry.line.0) (record { targets = entry.target ∷ []; line = entry.line }) []
    (eq-eqb entry.line.0 entry.line.0 refl)
single-put_first entry (register ∷ registers) few =
    let line = entry.line.0 in
    ⊎_elim
    (λ here.
    let longer : Register = record { targets = entry.target ∷ register.targets; line = register.line } in
    let is : put_first entry (register ∷ registers) ≡ longer ∷ registers = rw here refl in
    let new = count_by-yes (is_for line) longer registers here in
    let old = count_by-yes (is_for line) register registers here in
    ap (count_by (is_for line)) is ∙ omega (arith, new, old, few))
    (λ elsewhere.
    let old = count_by-no (is_for line) register registers elsewhere in
    let later = single-put_first entry registers (omega (arith, old, few)) in
    let new = count_by-no (is_for line) register (put_first entry registers) elsewhere in
    let is : put_first entry (register ∷ registers) ≡ register ∷ put_first entry registers = rw elsewhere refl in
    ap (count_by (is_for line)) is ∙ omega (arith, new, later))
    (cases_Bool (register.line.0 == line))

waited-put_first : (entry : Waiting) (registers : List Register) → All (λ r. IsTrue (is_waited r.targets)) registers →
    All (λ r. IsTrue (is_waited r.targets)) (put_first entry registers)
unfolding put_first
waited-put_first entry [] waited = All-cons (λ r. IsTrue (is_waited r.targets)) _ [] refl (All-nil _)
waited-put_first entry (register ∷ registers) waited =
    let first = All-head (λ r. IsTrue (is_waited r.targets)) register registers waited in
    let rest = All-tail (λ r. IsTrue (is_waited r.targets)) register registers waited in
    ⊎_elim
    (λ here. rw here (All-cons (λ r. IsTrue (is_waited r.targets)) _ registers refl rest))
    (λ elsewhere.
    rw elsewhere
    (All-cons (λ r. IsTrue (is_waited r.targets)) register (put_first entry registers) first
    (waited-put_first entry registers rest)))
    (cases_Bool (register.line.0 == entry.line.0))

-- The registers are a miss file.
pub by_line_sound : (entries : List Waiting) → IsMissFile (by_line entries)
unfolding by_line
by_line_sound [] = record { single = λ line. omega arith; waited = All-nil _ }
by_line_sound (entry ∷ entries) =
    let later = by_line_sound entries in
    record {
      single = λ line.
          ⊎_elim
          (λ same. let one = single-put_first entry (by_line entries) (later.single entry.line.0) in
          rw same (omega (arith, one)))
          (λ differs.
          let other = single-put_other entry (by_line entries) line differs in
          let few = later.single line in
          omega (arith, other, few))
          (cases_eq line entry.line.0);
      waited = waited-put_first entry (by_line entries) later.waited;
    }
