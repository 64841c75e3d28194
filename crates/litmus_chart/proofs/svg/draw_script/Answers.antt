use Rattle.std.proofs.Common.{inr}
use Rattle.litmus_chart.specs.Fault.{Draws}
use Rattle.litmus_chart.proofs.FaultLemmas.{stops}
use Rattle.litmus_chart.proofs.svg.draw_script.Goals as goal
use Rattle.litmus_script.proofs.PlayLemmas.{up_to_shown}
use Rattle.litmus_script.specs.Script.{commands_of}

pub returns : goal.returns
returns g c = record {
  fault = inr
      (stops c.args.script.config _ (commands_of c.args.script.commands) _ _ c.in-Err.fault c.in_ok-machine.ensures.config
      (up_to_shown (λ recorder. tt) (λ recorder. Unit {0}) _ Draws (λ old new line command before after same drawn. (tt, tt))
      _ (commands_of c.args.script.commands) _ _ _ c.in-Err.fault tt c.in-Err.ensures.fault));
}
