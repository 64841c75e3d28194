-- What a configuration's check says of its fields.
use Rattle.std.proofs.Common.{◌≡◌, refl, Option, Some, None, Result, Ok, Err}
use Rattle.std.specs.Option.{option_map_or}
use Rattle.address_map.specs.Config.{checked_of, first_fault}
use Rattle.address_map.specs.declared.config.Config.{Config}
use Rattle.address_map.specs.declared.config.ConfigError.{ConfigError}
use Rattle.core_thread_system.specs.Error.{IsAccepted, IsRefusedFor}

fault-named : {A E : Type 0} (f : Option E) (c : A) (fault : E)
    → ◌≡◌ {A = Result A E} (Err fault) (option_map_or (λ e. Err e) f (Ok c)) → f ≡ Some fault
fault-named None c fault e = cc
fault-named (Some other) c fault e = cc

none-named : {A E : Type 0} (f : Option E) (c checked : A)
    → ◌≡◌ {A = Result A E} (Ok checked) (option_map_or (λ e. Err e) f (Ok c)) → (f ≡ None) × (checked ≡ c)
none-named None c checked e = (refl, cc)
none-named (Some other) c checked e = cc

pub refused : (c : Config) (fault : ConfigError) → Err fault ≡ checked_of c → IsRefusedFor c fault
unfolding IsRefusedFor
refused c fault e = fault-named (first_fault c) c fault e

pub accepted : (c checked : Config) → Ok checked ≡ checked_of c → IsAccepted c × (checked ≡ c)
unfolding IsAccepted
accepted c checked e = none-named (first_fault c) c checked e
