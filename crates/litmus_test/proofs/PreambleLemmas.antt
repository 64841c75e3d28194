-- A test that has settings alone.
use Rattle.std.proofs.Common.{◌≡◌, ℕ, ◌≤◌, [], Option, Some, None, refl, sym, arith}
use Rattle.std.specs.Prelude.{Result, Ok, Err}
use Rattle.std.specs.Option.{option_map_or}
use Rattle.std.proofs.lemmas.List.Elements.{All-nil}
use Rattle.address_map.specs.Config.{checked_of, first_fault}
use Rattle.address_map.specs.declared.config.Config.{Config}
use Rattle.address_map.specs.declared.config.ConfigError.{ConfigError}
use Rattle.litmus_test.specs.Sound.{IsChecked, IsOutcomeOf, IsReplyOf, IsSound, IsThreadOf}

abbrev refusal : ConfigError → Result Config ConfigError
refusal fault = Err fault

checked_from : (c d : Config) (fault : Option ConfigError) (whole : Result Config ConfigError) → whole ≡ Ok d
    → whole ≡ option_map_or refusal fault (Ok c) → (d ≡ c) × (fault ≡ None)
checked_from c d None whole h k = (cc, refl)
checked_from c d (Some f) whole h k = (cc, cc)

-- a configuration that is checked has no fault, and stays
pub checked_ok : (c d : Config) → Ok d ≡ checked_of c → (d ≡ c) × IsChecked c
checked_ok c d h =
    let p = checked_from c d (first_fault c) (checked_of c) (sym h) refl in (p.0, record { no_fault = p.1 })

refused_from : (c : Config) (error : ConfigError) (fault : Option ConfigError) (whole : Result Config ConfigError)
    → whole ≡ Err error → whole ≡ option_map_or refusal fault (Ok c) → fault ≡ Some error
refused_from c error None whole h k = cc
refused_from c error (Some f) whole h k = cc

-- .. and one that is refused has this one
pub checked_err : (c : Config) (error : ConfigError) → Err error ≡ checked_of c → first_fault c ≡ Some error
checked_err c error h = refused_from c error (first_fault c) (checked_of c) (sym h) refl

pub sound_first : (c : Config) (rounds movers : ℕ) → IsChecked c → 1 ≤ rounds → rounds ≤ 10000 → movers ≤ 4
    → IsSound c rounds movers [] [] []
sound_first c rounds movers checked some few few_movers = record {
  checked = checked;
  some_round = some;
  few_rounds = few;
  few_movers = few_movers;
  programs = All-nil (IsThreadOf c);
  one_each = λ i j d before within. absurd (omega arith);
  few_names = omega arith;
  replies = All-nil (IsReplyOf []);
  own_names = λ i j d before within. absurd (omega arith);
  own_steps = λ i j d before within. absurd (omega arith);
  outcomes = All-nil (IsOutcomeOf 0);
}
