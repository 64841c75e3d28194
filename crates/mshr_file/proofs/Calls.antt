-- What one call on a table of registers leaves. The register that it changes was read there.
use Rattle.std.proofs.Common.{◌≡◌, ℕ, ◌+◌, ◌<◌, true, false, if◌then◌else◌, List, [], ◌∷◌, ◌++◌, length, get_or, set}
use Rattle.std.proofs.Common.{refl, sym, ap, arith, ◌∙◌}
use Rattle.target_list.specs.declared.target.Target.{Target}
use Rattle.address_map.specs.declared.address.Local.{Local}
use Rattle.mshr_file.specs.declared.registers.Register.{Register}
use Rattle.mshr_file.specs.Miss.{targets_of, is_waited, has_miss, AddsTarget, TakesTargets}
use Rattle.mshr_file.specs.Register.{misses_of, serves, no_register, HasEachLineOnce}
use Rattle.mshr_file.proofs.Lists.{one-if, either-one}
use Rattle.mshr_file.proofs.Table.{IsRegisterOf, served_waits, targets_of-misses}
use Rattle.mshr_file.proofs.Steps.{adds, takes, left, single_after, open_after, register_serving, register_free}
use Rattle.mshr_file.proofs.Steps.{waits_for, line_of}

pub record IsAdded (old new : List Register) (line : ℕ) (target : Target) (more : ℕ) : Type 0 where
  pub single : HasEachLineOnce new
  pub added : AddsTarget (misses_of old) (misses_of new) line target
  pub count : length (misses_of new) ≡ length (misses_of old) + more

pushed_waits : (targets : List Target) (target : Target) → is_waited (targets ++ target ∷ []) ≡ true
pushed_waits [] target = refl
pushed_waits (first ∷ rest) target = refl

-- a target after those of a register that serves the line
pub joined : (registers : List Register) (i : ℕ) (line : ℕ) (read : Register) (target : Target) (pushed : List Target) →
    HasEachLineOnce registers → i < length registers → read ≡ get_or registers i no_register →
    serves line (get_or registers i no_register) ≡ true →
    pushed ≡ read.targets ++ target ∷ [] →
    IsAdded registers (set registers i (record { targets = pushed; line = read.line })) line target 0
joined registers i line read target pushed single inside same serving push = record {
  single = single_after registers i line register home for single;
  added = adds registers i line register target home for (push ∙ ap (λ r. r.targets ++ target ∷ []) same);
  count =
      let total = open_after registers i register inside in
      let old = one-if _ true (served_waits line (get_or registers i no_register) serving) in
      let new = one-if _ true (ap is_waited push ∙ pushed_waits read.targets target) in
      omega (arith, total, old, new);
}
  where
    register : Register
    register = record { targets = pushed; line = read.line }

    home : IsRegisterOf registers i line
    home = register_serving registers i line single inside serving

    for : register.line.0 ≡ line
    for = ap (λ r. r.line.0) same ∙ line_of line (get_or registers i no_register) serving

-- a target in a free register, which is the line's from then on
pub opened : (registers : List Register) (i : ℕ) (line : Local) (read : Register) (target : Target)
    (pushed : List Target) →
    HasEachLineOnce registers → i < length registers → read ≡ get_or registers i no_register →
    is_waited (get_or registers i no_register).targets ≡ false →
    has_miss (misses_of registers) line.0 ≡ false → pushed ≡ read.targets ++ target ∷ [] →
    IsAdded registers (set registers i (record { targets = pushed; line = line })) line.0 target 1
opened registers i line read target pushed single inside same free nobody push = record {
  single = single_after registers i line.0 register home refl single;
  added = adds registers i line.0 register target home refl (push ∙ ap (λ r. r.targets ++ target ∷ []) same);
  count =
      let total = open_after registers i register inside in
      let old = one-if _ false free in
      let new = one-if _ true (ap is_waited push ∙ pushed_waits read.targets target) in
      omega (arith, total, old, new);
}
  where
    register : Register
    register = record { targets = pushed; line = line }

    home : IsRegisterOf registers i line.0
    home = register_free registers i line.0 inside free
        (ap is_waited (sym (targets_of-misses registers line.0)) ∙ nobody)

-- what was taken of a register and what is left, where it served the line
pub record IsTaken (old new : List Register) (line : ℕ) (register : Register) (taken rest : List Target) : Type 0 where
  pub single : HasEachLineOnce new
  pub before : targets_of (misses_of old) line ≡ register.targets
  pub after : targets_of (misses_of new) line ≡ rest
  pub takes : TakesTargets (misses_of old) (misses_of new) line taken
  pub count : length (misses_of old) ≡ length (misses_of new) + (if is_waited rest then 0 else 1)

pub took : (registers : List Register) (i : ℕ) (line : ℕ) (read : Register) (taken rest : List Target) →
    HasEachLineOnce registers → i < length registers → read ≡ get_or registers i no_register →
    serves line (get_or registers i no_register) ≡ true →
    read.targets ≡ taken ++ rest →
    IsTaken registers (set registers i (record { targets = rest; line = read.line })) line read taken rest
took registers i line read taken rest single inside same serving whole = record {
  single = single_after registers i line register home for single;
  before = waits_for registers i line home ∙ ap (λ r. r.targets) (sym same);
  after = left registers i line register home for;
  takes = takes registers i line register taken home for (ap (λ r. r.targets) (sym same) ∙ whole);
  count =
      let total = open_after registers i register inside in
      let old = one-if _ true (served_waits line (get_or registers i no_register) serving) in
      let other = either-one (is_waited rest) in
      omega (arith, total, old, other);
}
  where
    register : Register
    register = record { targets = rest; line = read.line }

    home : IsRegisterOf registers i line
    home = register_serving registers i line single inside serving

    for : register.line.0 ≡ line
    for = ap (λ r. r.line.0) same ∙ line_of line (get_or registers i no_register) serving

pub nothing_left : (rest : List Target) → rest ≡ [] → ◌≡◌ {A = ℕ} (if is_waited rest then 0 else 1) 1
nothing_left rest none = rw none refl
