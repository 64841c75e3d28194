-- One line more of a trace.
use Rattle.std.proofs.Common.{◌≡◌, ℕ, List, ◌++◌, Option, None, Some, refl, sym, ap}
use Rattle.std.specs.Prelude.{option_map}
use Rattle.std.specs.List.{cons_option}
use Rattle.murphi_trace.specs.declared.rule.Rule.{Rule}
use Rattle.murphi_trace.specs.Replay.{rules_with, text_of_told}
use Rattle.murphi_trace.specs.Script.{Step, step_by, text_of_steps, with_rule}
use Rattle.murphi_trace.specs.Fired.{fired_by}
use Rattle.murphi_trace.specs.Rule.{rule_of}
use Rattle.murphi_trace.proofs.PartLemmas.{from_some}

pub text_more : (before : List Rule) (step : Option Step) (more : List Step)
    → text_of_steps before (cons_option step more)
    ≡ text_of_told before step ++ text_of_steps (rules_with before step) more
text_more before None more = refl
text_more before (Some step) more = refl

-- a line that reports a rule is a step
pub told_step : (line : List ℕ) (fired : List ℕ × List ℕ) (rule : Rule) → Some fired ≡ fired_by line
    → Some rule ≡ rule_of fired → step_by line ≡ Some (fired, rule)
told_step line fired rule told is =
    sym (from_some with_rule (fired_by line) fired (Some (fired, rule)) told
    (ap (option_map (λ (r : Rule). (fired, r))) is))
