-- Cores whose receipts of each slice are that slice's own.
use Rattle.std.specs.Prelude.{◌≡◌, ℕ, ◌<◌, List}
use Rattle.std.specs.List.{AllByRecursion}
use Rattle.address_map.specs.declared.config.Config.{Config}
use Rattle.core_thread_system.specs.Core.{CoreView, port_at, receipts_of}
use Rattle.receipt_ledger.specs.Port.{AreOwn}

-- The core's receipts of each slice below this number are the slice's own.
abbrev pub HasItsOwn : Config → ℕ → CoreView → Type 0
HasItsOwn c limit v = (slice : ℕ) → slice < limit → AreOwn c slice (port_at v slice).core (receipts_of v slice)

-- So are those of each core of this number.
abbrev pub AreOwnAt : Config → List CoreView → ℕ → Type 0
AreOwnAt c cores number = AllByRecursion (λ v. v.core.0 ≡ number → HasItsOwn c c.slices v) cores

-- So are those of each core below this number.
abbrev pub AreOwnBelow : Config → List CoreView → ℕ → Type 0
AreOwnBelow c cores limit = (number : ℕ) → number < limit → AreOwnAt c cores number
