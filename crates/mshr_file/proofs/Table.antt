-- A table of registers: what waits for a line in it, before and after one register changes.
use Rattle.std.proofs.Common.{◌≡◌, ◌≢◌, ℕ, ◌<◌, ◌≤◌, zero, suc, Bool, true, false, not, if◌then◌else◌, List, [], ◌∷◌}
use Rattle.std.proofs.Common.{◌++◌, length, get_or, set, refl, sym, ap, ⊎_elim, arith, ◌∙◌}
use Rattle.std.specs.Prelude.{◌&&◌}
use Rattle.std.specs.List.{count_by, list_any}
use Rattle.std.proofs.lemmas.Bool.{cases_Bool, ne_eqb, eq-eqb}
use Rattle.std.proofs.lemmas.List.{append-nil, length-set, get_or-set_same}
use Rattle.std.proofs.lemmas.List.Sums.{sum_by-set, get_or-le-sum_by}
use Rattle.target_list.specs.declared.target.Target.{Target}
use Rattle.mshr_file.specs.Miss.{is_for, targets_in, targets_of, is_waited, count_of}
use Rattle.mshr_file.specs.declared.registers.Register.{Register}
use Rattle.mshr_file.specs.Register.{misses_of, serves, no_register}
use Rattle.mshr_file.proofs.Lists.{flat_map-filter, sum_by-filter, one-if, count_by-yes, count_by-no}

pub nothing_waits : (targets : List Target) → is_waited targets ≡ false → targets ≡ []
nothing_waits [] none = refl
nothing_waits (first ∷ rest) none = absurd cc

pub in_free : (line : ℕ) (register : Register) → is_waited register.targets ≡ false → targets_in line register ≡ []
in_free line register free =
    ⊎_elim (λ for. rw for (nothing_waits register.targets free)) (λ other. rw other refl)
    (cases_Bool (is_for line register))

-- Free registers add nothing to what waits for a line, nor to a count.
pub targets_of-misses : (registers : List Register) (line : ℕ) →
    targets_of (misses_of registers) line ≡ targets_of registers line
targets_of-misses registers line =
    flat_map-filter (targets_in line) (λ register. is_waited register.targets) (in_free line) registers

pub count_of-misses : (test : Target → Bool) (registers : List Register) →
    count_of test (misses_of registers) ≡ count_of test registers
count_of-misses test registers =
    sum_by-filter {X = Register}
    (λ register. count_by test register.targets)
    (λ register. is_waited register.targets)
    (λ register free. rw (nothing_waits register.targets free) refl)
    registers

not-served : (line : ℕ) (register : Register) → serves line register ≡ false → targets_in line register ≡ []
not-served line register not =
    ⊎_elim
    (λ waited. let other : is_for line register ≡ false = rw waited at not in rw other refl)
    (λ free. in_free line register free)
    (cases_Bool (is_waited register.targets))

pub served_waits : (line : ℕ) (register : Register) → serves line register ≡ true → is_waited register.targets ≡ true
served_waits line register here = by_and _ _ here
  where
    by_and : (a b : Bool) → (a && b) ≡ true → a ≡ true
    by_and true b e = refl
    by_and false b e = e

pub served_for : (line : ℕ) (register : Register) → serves line register ≡ true → is_for line register ≡ true
served_for line register here = by_and _ _ here
  where
    by_and : (a b : Bool) → (a && b) ≡ true → b ≡ true
    by_and true b e = e
    by_and false b e = absurd cc

pub served_in : (line : ℕ) (register : Register) → serves line register ≡ true →
    targets_in line register ≡ register.targets
served_in line register here = rw (served_for line register here) refl

pub appended_waits : (first rest : List Target) → is_waited first ≡ true → is_waited (first ++ rest) ≡ true
appended_waits [] rest waits = absurd cc
appended_waits (target ∷ more) rest waits = refl

-- A line is waited for exactly where a register serves it.
pub found : (registers : List Register) (line : ℕ) →
    list_any (serves line) registers ≡ is_waited (targets_of registers line)
found [] line = refl
found (register ∷ registers) line =
    ⊎_elim
    (λ yes.
    rw yes
    (rw (served_in line register yes)
    (sym (appended_waits register.targets (targets_of registers line) (served_waits line register yes)))))
    (λ no. rw no (rw (not-served line register no) (found registers line)))
    (cases_Bool (serves line register))

unserved : (registers : List Register) (line : ℕ) → count_by (serves line) registers ≡ 0 →
    targets_of registers line ≡ []
unserved [] line none = refl
unserved (register ∷ registers) line none =
    ⊎_elim
    (λ serving. absurd (let all = count_by-yes (serves line) register registers serving in omega (arith, none, all)))
    (λ not.
    let all = count_by-no (serves line) register registers not in
    let later : count_by (serves line) registers ≡ 0 = omega (arith, none, all) in
    rw (not-served line register not) (unserved registers line later))
    (cases_Bool (serves line register))

pub counts_one : (registers : List Register) (i line : ℕ) → i < length registers →
    serves line (get_or registers i no_register) ≡ true
    → 1 ≤ count_by (serves line) registers
counts_one registers i line here serving =
    let least = get_or-le-sum_by (λ r. if serves line r then 1 else 0) registers i no_register here in
    let one : ◌≡◌ {A = ℕ} (if serves line (get_or registers i no_register) then 1 else 0) 1 = rw serving refl in
    omega (arith, least, one)

pub counts_none : (registers : List Register) (line : ℕ) → list_any (serves line) registers ≡ false →
    count_by (serves line) registers ≡ 0
counts_none [] line nobody = refl
counts_none (register ∷ registers) line nobody =
    ⊎_elim
    (λ serving. let clash : true ≡ false = rw serving at nobody in absurd cc)
    (λ not. count_by-no (serves line) register registers not ∙ counts_none registers line (rw not at nobody))
    (cases_Bool (serves line register))

pub free_serves : (line : ℕ) (register : Register) → is_waited register.targets ≡ false → serves line register ≡ false
free_serves line register free = rw free refl

-- Where one register alone serves a line, its targets are those that wait for the line.
served : (registers : List Register) (i line : ℕ) → i < length registers → serves line (get_or registers i no_register)
    ≡ true →
    count_by (serves line) registers ≤ 1 → targets_of registers line ≡ (get_or registers i no_register).targets
served [] i line inside serving single = absurd (omega arith)
served (register ∷ registers) zero line inside serving single =
    let all = count_by-yes (serves line) register registers serving in
    let later : count_by (serves line) registers ≡ 0 = omega (arith, all, single) in
    rw (served_in line register serving) (rw (unserved registers line later) (append-nil register.targets))
served (register ∷ registers) (suc i) line inside serving single =
    let here : i < length registers = omega arith in
    let one : 1 ≤ count_by (serves line) registers = counts_one registers i line here serving in
    ⊎_elim
    (λ also. absurd (let all = count_by-yes (serves line) register registers also in omega (arith, all, one, single)))
    (λ not.
    let all = count_by-no (serves line) register registers not in
    let later : count_by (serves line) registers ≤ 1 = omega (arith, all, single) in
    rw (not-served line register not) (served registers i line here serving later))
    (cases_Bool (serves line register))

targets_of-set : (registers : List Register) (i : ℕ) (register : Register) (line : ℕ) → i < length registers →
    targets_in line (get_or registers i no_register) ≡ [] → targets_in line register ≡ [] →
    targets_of (set registers i register) line ≡ targets_of registers line
targets_of-set [] i register line inside old new = refl
targets_of-set (first ∷ registers) zero register line inside old new = rw old (rw new refl)
targets_of-set (first ∷ registers) (suc i) register line inside old new =
    ap (λ targets. targets_in line first ++ targets) (targets_of-set registers i register line (omega arith) old new)

-- The register at a place is the one for a line: no other serves the line, and it serves no other line.
pub record IsRegisterOf (registers : List Register) (i line : ℕ) : Type 0 where
  pub inside : i < length registers
  pub own : targets_in line (get_or registers i no_register) ≡ (get_or registers i no_register).targets
  pub alone : count_by (serves line) registers ≡ (if serves line (get_or registers i no_register) then 1 else 0)
  pub others : (other : ℕ) → other ≢ line → serves other (get_or registers i no_register) ≡ false

-- What waits for its line waits in it.
pub waits_in : (registers : List Register) (i line : ℕ) → IsRegisterOf registers i line →
    targets_of registers line ≡ (get_or registers i no_register).targets
waits_in registers i line home =
    ⊎_elim
    (λ serving.
    let one = one-if _ true serving in
    served registers i line home.inside serving (let alone = home.alone in omega (arith, one, alone)))
    (λ not.
    let none = one-if _ false not in
    let nobody : count_by (serves line) registers ≡ 0 = let alone = home.alone in omega (arith, none, alone) in
    unserved registers line nobody ∙ sym (not-served line (get_or registers i no_register) not) ∙ home.own)
    (cases_Bool (serves line (get_or registers i no_register)))

pub for_another : (line other : ℕ) (register : Register) → register.line.0 ≡ line → other ≢ line →
    serves other register ≡ false
for_another line other register for differs =
    let not : is_for other register ≡ false = ne_eqb register.line.0 other (λ same. differs (sym same ∙ for)) in
    ⊎_elim (λ waited. rw waited not) (λ free. rw free refl) (cases_Bool (is_waited register.targets))

own-line : (line : ℕ) (register : Register) → register.line.0 ≡ line → targets_in line register ≡ register.targets
own-line line register for = let is : is_for line register ≡ true = eq-eqb register.line.0 line for in rw is refl

-- A register that was changed for its line is still the one for it.
pub changed : (registers : List Register) (i line : ℕ) (register : Register) → IsRegisterOf registers i line →
    register.line.0 ≡ line →
    IsRegisterOf (set registers i register) i line
changed registers i line register home for = record {
  inside = rw (length-set registers i register) home.inside;
  own = rw here (own-line line register for);
  alone =
      let total = sum_by-set (λ r. if serves line r then 1 else 0) registers i register no_register home.inside in
      let before = home.alone in
      rw here (omega (arith, total, before));
  others = λ other differs. rw here (for_another line other register for differs);
}
  where
    here : get_or (set registers i register) i no_register ≡ register
    here = get_or-set_same registers i register no_register home.inside

pub waits_elsewhere : (registers : List Register) (i line : ℕ) (register : Register) → IsRegisterOf registers i line →
    register.line.0 ≡ line →
    (other : ℕ) → other ≢ line → targets_of (set registers i register) other ≡ targets_of registers other
waits_elsewhere registers i line register home for other differs =
    targets_of-set registers i register other home.inside
    (not-served other (get_or registers i no_register) (home.others other differs))
    (not-served other register (for_another line other register for differs))
