-- What a system has.
use Rattle.std.specs.Prelude.{◌≡◌, ℕ, ◌<◌, ◌==◌, Bool, nat_lt, List}
use Rattle.address_map.specs.declared.address.SliceId.{SliceId}
use Rattle.address_map.specs.declared.config.Config.{Config}
use Rattle.receipt_ledger.specs.Port.{PortView, AreFreshPorts}

-- The configuration is the one that is named, and each slice is there where the configuration has it; slice 0 always
-- is.
pub record IsSystem (setup config : Config) (has1 has2 has3 : Bool) : Type 0 where
  pub named : config ≡ setup
  pub first : has1 ≡ nat_lt 1 config.slices
  pub second : has2 ≡ nat_lt 2 config.slices
  pub third : has3 ≡ nat_lt 3 config.slices

-- A look at the slice of this number has that slice's lock, and no other.
pub record IsLook (slice : ℕ) (has0 has1 has2 has3 : Bool) : Type 0 where
  pub known : slice < 4
  pub first : has0 ≡ (slice == 0)
  pub second : has1 ≡ (slice == 1)
  pub third : has2 ≡ (slice == 2)
  pub fourth : has3 ≡ (slice == 3)

-- The slice is there where the configuration has it, and in any case there is a port of it for each core.
pub record IsPlaced (config : Config) (slice : SliceId) (has : Bool) (ports : List PortView) : Type 0 where
  pub there : has ≡ nat_lt slice.0 config.slices
  pub fresh : AreFreshPorts slice config.cores ports
