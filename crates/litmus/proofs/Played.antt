-- Commands that were played on a machine that is built, as they are on one of its configuration; and why a script has
-- no traces.
use Rattle.std.proofs.Common.{◌≡◌, ◌⊎◌, ℕ, List, [], Option, Some, inl, inr, subst}
use Rattle.address_map.specs.declared.config.Config.{Config}
use Rattle.litmus.specs.Traces.{IsNotTraced}
use Rattle.mshr_file.specs.Miss.{bound_of}
use Rattle.litmus_script.specs.Play.{IsOfRun, PlaysAll, PlaysUpTo}
use Rattle.litmus_script.specs.Script.{IsPlayedUpTo, IsScript, Plainly, commands_of}
use Rattle.litmus_script.specs.declared.script.Script.{Script}
use Rattle.litmus_text.specs.declared.fault.TextFault.{TextFault}
use Rattle.slice_core_spec.specs.Calls.{PartsView}

module _ (built config : Config) (commands : List (ℕ × List (List ℕ))) (start : List PartsView) (first : List ℕ)
    (answers : Option (List ℕ)) where
  pub played-on : (end : List PartsView) → built ≡ config → first ≡ []
      → PlaysAll (Plainly built) built commands start end (Some first) answers
      → PlaysAll (Plainly config) config commands start end (Some []) answers
  played-on end same none played =
      subst (λ (c : Config). PlaysAll (Plainly c) c commands start end (Some []) answers) same
      (subst (λ (xs : List ℕ). PlaysAll (Plainly built) built commands start end (Some xs) answers) none played)

  pub stopped-on : (fault : TextFault) → built ≡ config → first ≡ []
      → PlaysUpTo (Plainly built) built commands start (Some first) answers fault
      → PlaysUpTo (Plainly config) config commands start (Some []) answers fault
  stopped-on fault same none stopped =
      subst (λ (c : Config). PlaysUpTo (Plainly c) c commands start (Some []) answers fault) same
      (subst (λ (xs : List ℕ). PlaysUpTo (Plainly built) built commands start (Some xs) answers fault) none stopped)

-- what prevents the commands of a script from being played prevents its traces from being written
pub not-traced : (all : List (ℕ × List (List ℕ))) (script : Script) (fault : TextFault) → IsScript all script
    → IsOfRun fault
    ⊎ ((after : Option (List ℕ)) × IsPlayedUpTo Plainly script.config (bound_of script.misses script.config)
    (commands_of script.commands) (Some []) after fault)
    → IsNotTraced all fault
not-traced all script fault read (inl of_run) = inl of_run
not-traced all script fault read (inr (after, stopped)) = inr (after, inr (script.config, _, _, read, stopped))
