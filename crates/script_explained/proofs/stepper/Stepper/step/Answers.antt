use Rattle.std.proofs.Common.{refl}
use Rattle.std.proofs.lemmas.Result.{on_ok_weaker}
use Rattle.script_explained.proofs.StepLemmas.{said}
use Rattle.script_explained.proofs.stepper.Stepper.step.Goals as goal

pub write-requires : goal.write-requires
write-requires g c = rw (c.in_ok-step.ensures.step.of_command, c.in_ok-step.ensures.config) c.requires

pub returns-clause-stepped : goal.returns-clause-stepped
returns-clause-stepped g c =
    on_ok_weaker c.write.result
    (λ written. record {
      step = _;
      makes = c.in_ok-step.ensures.step;
      written = said g.S.StepWriter.writes _ _ _ _ _ _ _ _ _ c.in_ok-step.ensures.config refl written;
    })
    c.write.ensures.written
