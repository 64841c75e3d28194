-- Misses, as the miss registers of one cache hold them: each register is a line that is waited for, with the accesses
-- that wait for it, the oldest first (Kroft 1981). Lines are numbered within their slice.
use Rattle.std.specs.Prelude.{◌≡◌, ◌≢◌, ◌≤◌, ◌<◌, ◌==◌, ℕ, ◌+◌, Bool, true, false, if◌then◌else◌, nat_lt, List, [], ◌∷◌}
use Rattle.std.specs.Prelude.{◌++◌, length, map, sum_by, All, IsTrue}
use Rattle.std.specs.List.{flat_map, count_by}
use Rattle.address_map.specs.declared.address.Local.{Local}
use Rattle.address_map.specs.declared.config.Config.{Config}
use Rattle.address_map.specs.Words.{IsAscendingBy}
use Rattle.mshr_file.specs.declared.admission.Admission.{Admission}
use Rattle.mshr_file.specs.declared.admission.Admission.TheVariants as admissions
use Rattle.mshr_file.specs.declared.kind.MissKind.{MissKind}
use Rattle.mshr_file.specs.declared.kind.MissKind.TheVariants as miss_kinds
use Rattle.mshr_file.specs.declared.registers.Register.{Register}
use Rattle.target_list.specs.declared.target.Target.{Target}

abbrev pub is_for : ℕ → Register → Bool
is_for line register = register.line.0 == line

-- what waits in a register for this line
abbrev pub targets_in : ℕ → Register → List Target
targets_in line register = if is_for line register then register.targets else []

-- the accesses that wait for a line, the oldest first
abbrev pub targets_of : List Register → ℕ → List Target
targets_of misses line = flat_map (targets_in line) misses

abbrev pub is_waited : List Target → Bool
is_waited [] = false
is_waited _ = true

-- the lines that are waited for, in the order of their registers
abbrev pub waited_lines : List Register → List Local
waited_lines misses = map (λ register. register.line) misses

-- there is a register for the line: some access waits for it
abbrev pub has_miss : List Register → ℕ → Bool
has_miss misses line = is_waited (targets_of misses line)

-- how many of all targets pass a test
abbrev pub count_of : (Target → Bool) → List Register → ℕ
count_of test misses = sum_by (λ register. count_by test register.targets) misses

abbrev pub has_tag : ℕ → Target → Bool
has_tag tag target = target.tag == tag

-- No line has two registers, and each register has a target.
pub record IsMissFile (misses : List Register) : Type 0 where
  pub single : (line : ℕ) → count_by (is_for line) misses ≤ 1
  pub waited : All (λ register. IsTrue (is_waited register.targets)) misses

-- The targets of each line are in the order of their numbers.
abbrev pub IsInOrder : List Register → Type 0
IsInOrder misses = (line : ℕ) → IsAscendingBy (λ target. target.seq) (targets_of misses line)

-- No two targets have one tag.
abbrev pub HasEachTagOnce : List Register → Type 0
HasEachTagOnce misses = (tag : ℕ) → count_of (has_tag tag) misses ≤ 1

-- no target has the tag
abbrev pub is_free : List Register → ℕ → Bool
is_free misses tag = count_of (has_tag tag) misses == 0

-- One target has joined those of a line, as the last of them, and all else is as it was. So of any kind of target there
-- are as many as before, and this one. Targets stay in order where its number is above those of its line, and no tag
-- occurs twice where its own was free.
pub record AddsTarget (old new : List Register) (line : ℕ) (target : Target) : Type 0 where
  pub here : targets_of new line ≡ targets_of old line ++ target ∷ []
  pub others : (other : ℕ) → other ≢ line → targets_of new other ≡ targets_of old other
  pub counts : (test : Target → Bool) → count_of test new ≡ count_of test old + count_by test (target ∷ [])
  pub ordered : IsInOrder old → All (λ earlier. earlier.seq < target.seq) (targets_of old line) → IsInOrder new
  pub once : HasEachTagOnce old → is_free old target.tag ≡ true → HasEachTagOnce new

-- The first targets of a line were taken, and all else is as it was.
pub record TakesTargets (old new : List Register) (line : ℕ) (taken : List Target) : Type 0 where
  pub here : targets_of old line ≡ taken ++ targets_of new line
  pub others : (other : ℕ) → other ≢ line → targets_of new other ≡ targets_of old other
  pub counts : (test : Target → Bool) → count_of test old ≡ count_of test new + count_by test taken
  pub ordered : IsInOrder old → IsInOrder new
  pub once : HasEachTagOnce old → HasEachTagOnce new

-- What bounds a file: its registers and the target fields of each (Farkas and Jouppi's explicitly addressed registers),
-- or one entry for each tag (their inverted organisation).
pub data Bound : Type 0 where
  registers : ℕ → ℕ → Bound
  tags : Bound

-- a register can be opened for a request with this tag
abbrev pub can_open : Bound → List Register → ℕ → Bool
can_open (registers most fields) misses tag = nat_lt (length misses) most
can_open tags misses tag = is_free misses tag

-- a request with this tag can join the register of the line
abbrev pub can_join : Bound → List Register → ℕ → ℕ → Bool
can_join (registers most fields) misses line tag = nat_lt (length (targets_of misses line)) fields
can_join tags misses line tag = is_free misses tag

-- what a request with this tag for a line is to do: join the line's register, else open one, else wait for room
abbrev pub admission_of : Bound → List Register → ℕ → ℕ → Admission
admission_of bound misses line tag =
    if has_miss misses line
    then (if can_join bound misses line tag then admissions.Join else admissions.NoTarget)
    else (if can_open bound misses tag then admissions.Open else admissions.NoRegister)

-- what a configuration bounds a file of registers by
abbrev pub registers_of : Config → Bound
registers_of config = registers config.mshrs config.targets

-- what bounds the miss files of a kind: the configured registers and targets, or a core's tags
abbrev pub bound_of : MissKind → Config → Bound
bound_of miss_kinds.Explicit config = registers_of config
bound_of miss_kinds.Inverted config = tags
