-- Why a system isn't built.
use Rattle.std.specs.Prelude.{◌≡◌, Some, None}
use Rattle.address_map.specs.Config.{first_fault}
use Rattle.address_map.specs.declared.config.Config.{Config}
use Rattle.address_map.specs.declared.config.ConfigError.{ConfigError}
use Rattle.core_thread_system.specs.declared.error.BuildError.{BuildError}
use Rattle.core_thread_system.specs.declared.error.BuildError.TheVariants as build_errors

-- this is the first invalid field
unfoldable pub IsRefusedFor : Config → ConfigError → Type 0
IsRefusedFor c fault = first_fault c ≡ Some fault

-- no field is invalid
unfoldable pub IsAccepted : Config → Type 0
IsAccepted c = first_fault c ≡ None

-- The error names the configuration's first invalid field; or none is invalid, and an allocation failed.
abbrev pub IsFaultOf : Config → BuildError → Type 0
IsFaultOf c (build_errors.Config fault) = IsRefusedFor c fault
IsFaultOf c build_errors.Memory = IsAccepted c
