-- How a script's configuration is read, line by line.
use Rattle.std.proofs.Common.{◌≡◌, ℕ, List, [], ◌∷◌, ◌++◌, Option, Some, None, Ok, Err, refl, sym, subst, ◌∙◌, inr}
use Rattle.std.proofs.Common.{append_assoc}
use Rattle.std.specs.Prelude.{Result}
use Rattle.std.specs.Option.{option_map_or}
use Rattle.address_map.specs.Config.{checked_of, first_fault}
use Rattle.address_map.specs.declared.config.Config.{Config}
use Rattle.address_map.specs.declared.config.ConfigError.{ConfigError}
use Rattle.litmus_text.specs.Settings.{default_settings}
use Rattle.litmus_text.specs.declared.fault.TextFault.{TextFault}
use Rattle.litmus_text.specs.declared.settings.Settings.{Settings}
use Rattle.litmus_script.specs.Script.{BeginOtherwise, Configures, IsConfigFault, IsConfigured}
use Rattle.litmus_script.specs.Script.{IsNotConfigured, IsRefused, TakesLine}

configures_more : (a b c : Settings) (done : List (ℕ × List (List ℕ))) (s : ℕ × List (List ℕ))
    → Configures a done b → TakesLine s.1 b c
    → Configures a (done ++ s ∷ []) c
configures_more a b c [] s none line = (c, subst (λ x. TakesLine s.1 x c) none line, refl)
configures_more a b c (d ∷ done) s so_far line =
    (so_far.0, so_far.1, configures_more so_far.0 b c done s so_far.2 line)

-- nothing was read yet
pub configured_none : (all : List (ℕ × List (List ℕ))) → IsConfigured all default_settings all
configured_none all = record { done = []; split = refl; configured = refl }

-- one more line was taken
pub configured_more : (all left : List (ℕ × List (List ℕ))) (s : ℕ × List (List ℕ)) (old new : Settings)
    → IsConfigured all old (s ∷ left) → TakesLine s.1 old new → IsConfigured all new left
configured_more all left s old new so_far line = record {
  done = so_far.done ++ s ∷ [];
  split = so_far.split ∙ sym (append_assoc so_far.done (s ∷ []) left);
  configured = configures_more default_settings old new so_far.done s so_far.configured line;
}

refused_wrong : (settings : Settings) (left : List (ℕ × List (List ℕ))) (fault : TextFault) → BeginOtherwise left
    → IsRefused settings.config fault → IsConfigFault settings left fault
refused_wrong settings [] fault others refused = refused
refused_wrong settings (s ∷ left) fault others refused = inr (others, refused)

-- the machine that was configured is what is wrong
pub not_configured_machine : (all left : List (ℕ × List (List ℕ))) (settings : Settings) (fault : TextFault)
    → IsConfigured all settings left → BeginOtherwise left → IsRefused settings.config fault → IsNotConfigured all fault
not_configured_machine all left settings fault so_far others refused =
    record { settings = settings; left = left; read = so_far; wrong = refused_wrong settings left fault others refused }

abbrev refusal : ConfigError → Result Config ConfigError
refusal fault = Err fault

refused_from : (c : Config) (e : ConfigError) (fault : Option ConfigError) (whole : Result Config ConfigError)
    → whole ≡ Err e
    → whole ≡ option_map_or refusal fault (Ok c) → fault ≡ Some e
refused_from c e None whole is of = cc
refused_from c e (Some f) whole is of = cc

-- a configuration that is refused has this field as its first fault
pub refused : (c : Config) (e : ConfigError) → Err e ≡ checked_of c → first_fault c ≡ Some e
refused c e h = refused_from c e (first_fault c) (checked_of c) (sym h) refl
