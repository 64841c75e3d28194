-- What a text configures.
use Rattle.address_map.specs.Config.{default_config}
use Rattle.mshr_file.specs.declared.kind.MissKind.TheVariants.{Explicit}
use Rattle.litmus_text.specs.declared.settings.Settings.{Settings}

-- the machine of a text that configures nothing
abbrev pub default_settings : Settings
default_settings = record { config = default_config; misses = Explicit }
