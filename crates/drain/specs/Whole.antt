-- Which cores an audit wants: each of the machine's cores, once.
use Rattle.std.specs.Prelude.{◌≡◌, ℕ, ◌<◌, List, length, map}
use Rattle.std.specs.List.{AllByRecursion}
use Rattle.address_map.specs.declared.config.Config.{Config}
use Rattle.core_thread_system.specs.Core.{CoreView}
use Rattle.receipt_ledger.specs.History.{times}

abbrev pub numbers_of : List CoreView → List ℕ
numbers_of cores = map (λ v. v.core.0) cores

-- Each core below this number occurs once.
abbrev pub AreOnceBelow : ℕ → List CoreView → Type 0
AreOnceBelow limit cores = (core : ℕ) → core < limit → times core (numbers_of cores) ≡ 1

-- Each of the cores is one of the machine's.
abbrev pub AreConfigured : Config → List CoreView → Type 0
AreConfigured c cores = AllByRecursion (λ v. v.core.0 < c.cores) cores

-- Each core of the machine occurs once, and there are as many as the machine has.
pub record AreWhole (c : Config) (cores : List CoreView) : Type 0 where
  pub once : AreOnceBelow c.cores cores
  pub all : length cores ≡ c.cores
