use Rattle.std.proofs.lemmas.Result.{on_ok_weaker}
use Rattle.script_explained.proofs.StepLemmas.{one_step}
use Rattle.script_explained.proofs.stepper.StepperPlayer.play.Goals as goal

pub returns-in-Pump-clause-plays : goal.returns-in-Pump-clause-plays
returns-in-Pump-clause-plays g c =
    on_ok_weaker c.pump.result
    (λ pumped. rw c.in-Pump.is (c.pump.ensures.config, pumped.0, record { steps = pumped.1 }))
    c.pump.ensures.pumped

pub returns-in_default-clause-plays : goal.returns-in_default-clause-plays
returns-in_default-clause-plays g c =
    on_ok_weaker c.step.result
    (λ stepped. (
      c.step.ensures.config,
      c.step.ensures.writer,
      one_step _ _ _ _ _ c.args.command _ _ _ c.in_default.not-Pump stepped,
    ))
    c.step.ensures.stepped
