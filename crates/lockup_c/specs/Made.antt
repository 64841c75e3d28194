-- How a machine is made of numbers, and freed.
use Rattle.std.specs.Prelude.{◌≡◌, ◌⊎◌, ℕ, Bool, true, false, List, [], ◌∷◌, map, Option, None, Some, option_and_then, option_map, slice_get}
use Rattle.address_map.specs.declared.address.WordAddr.{WordAddr}
use Rattle.address_map.specs.declared.config.PolicyKind.{PolicyKind}
use Rattle.address_map.specs.declared.config.PolicyKind.TheVariants as policy_kinds
use Rattle.litmus_text.specs.declared.fault.TextFault.{TextFault}
use Rattle.litmus_text.specs.declared.settings.Settings.{Settings}
use Rattle.lockup_c.specs.Calls.{IfNamed}
use Rattle.lockup_c.specs.Number.{fault_code}
use Rattle.lockup_c.specs.declared.held.Held.{Held}
use Rattle.lockup_c.specs.declared.held.Held.TheVariants as helds
use Rattle.lockup_c.specs.declared.structs.Config.{Config as Numbers}
use Rattle.lockup_c.specs.declared.structs.Initial.{Initial}
use Rattle.mshr_file.specs.declared.kind.MissKind.{MissKind}
use Rattle.mshr_file.specs.declared.kind.MissKind.TheVariants as miss_kinds
use Rattle.simulator.specs.Simulator.{IsCopyOf, IsNewSimulator, IsNotBuilt}
use Rattle.simulator.specs.declared.simulator.Simulator.{Simulator}

abbrev pub policy_named : ℕ → ℕ → Option PolicyKind
policy_named policy seed =
    slice_get (policy_kinds.Lru ∷ policy_kinds.Fifo ∷ policy_kinds.Random seed ∷ []) policy

abbrev pub misses_named : ℕ → Option MissKind
misses_named misses = slice_get (miss_kinds.Explicit ∷ miss_kinds.Inverted ∷ []) misses

abbrev pub flag_named : ℕ → Option Bool
flag_named flag = slice_get (false ∷ true ∷ []) flag

abbrev pub initial_of : Initial → WordAddr × ℕ
initial_of initial = (record { 0 = initial.word }, initial.value)

abbrev pub word_of : ℕ → WordAddr
word_of word = record { 0 = word }

-- the settings of these numbers and lists
abbrev pub settings_with : Numbers → List Initial → List ℕ → PolicyKind → MissKind → Bool → Settings
settings_with numbers initial counters policy misses exclusive = record {
  config = record {
    cores = numbers.cores;
    slices = numbers.slices;
    lines = numbers.lines;
    sets = numbers.sets;
    ways = numbers.ways;
    mshrs = numbers.mshrs;
    targets = numbers.targets;
    writebacks = numbers.writebacks;
    policy = policy;
    exclusive = exclusive;
    init = map initial_of initial;
    counters = map word_of counters;
  };
  misses = misses;
}

abbrev pub kinds_named : Numbers → Option (PolicyKind × MissKind × Bool)
kinds_named numbers =
    option_and_then (λ policy.
    option_and_then (λ misses.
    option_map (λ exclusive. (policy, misses, exclusive)) (flag_named numbers.exclusive))
    (misses_named numbers.misses))
    (policy_named numbers.policy numbers.seed)

-- the handle has a new machine of the settings
pub record HasNew (settings : Settings) (held : Option Held) : Type 0 where
  pub simulator : Simulator
  pub is : held ≡ Some (helds.Machine simulator)
  pub fresh : IsNewSimulator settings simulator

-- why it has none
pub record IsRefused (settings : Settings) (code : ℕ) : Type 0 where
  pub fault : TextFault
  pub is : IsNotBuilt settings.config fault
  pub said : code ≡ fault_code fault

-- a handle that has nothing is given a new machine, or stays as it is
abbrev pub MakesBy : ℕ → Settings → Option Held → Type 0
MakesBy code settings new = ((code ≡ 0) × HasNew settings new) ⊎ ((new ≡ None) × IsRefused settings code)

abbrev pub Makes : Numbers → List Initial → List ℕ → ℕ → Option Held → Option Held → Type 0
Makes numbers initial counters code (Some held) new = (code ≡ 4) × (new ≡ Some held)
Makes numbers initial counters code None new =
    IfNamed (kinds_named numbers)
    (λ kinds. MakesBy code (settings_with numbers initial counters kinds.0 kinds.1 kinds.2) new)
    ((code ≡ 2) × (new ≡ None))

-- the handle has the same machine once more
pub record HasCopy (simulator : Simulator) (held : Option Held) : Type 0 where
  pub copy : Simulator
  pub is : held ≡ Some (helds.Machine copy)
  pub same : IsCopyOf simulator copy

-- a handle that has nothing is given a copy of what another one has, or stays as it is
abbrev pub Copies : ℕ → Held → Option Held → Type 0
Copies code (helds.Machine simulator) new = ((code ≡ 0) × HasCopy simulator new) ⊎ ((code ≡ 3) × (new ≡ None))
Copies code (helds.Trace judge) new = (code ≡ 1) × (new ≡ None)
Copies code (helds.Histories judged) new = (code ≡ 1) × (new ≡ None)

abbrev pub Clones : ℕ → Option Held → Option Held → Option Held → Type 0
Clones code held (Some other) new = (code ≡ 4) × (new ≡ Some other)
Clones code None None new = (code ≡ 1) × (new ≡ None)
Clones code (Some held) None new = Copies code held new

-- what the handle has is freed
abbrev pub Frees : ℕ → Option Held → Option Held → Type 0
Frees code (Some held) new = (code ≡ 0) × (new ≡ None)
Frees code None new = (code ≡ 1) × (new ≡ None)

-- the configuration of an empty script
abbrev pub default_numbers : Numbers
default_numbers = record {
  cores = 2;
  slices = 1;
  lines = 16;
  sets = 4;
  ways = 2;
  mshrs = 4;
  targets = 4;
  writebacks = 2;
  policy = 0;
  seed = 0;
  misses = 0;
  exclusive = 0;
}
