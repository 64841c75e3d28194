use Rattle.std.proofs.Common.{inr}
use Rattle.std.proofs.lemmas.Result.{IfErr-weaker}
use Rattle.litmus_chart.specs.Fault.{Draws}
use Rattle.litmus_chart.proofs.FaultLemmas.{stops}
use Rattle.litmus_chart.proofs.chart.chart_of.Goals as goal
use Rattle.litmus_script.proofs.PlayLemmas.{up_to_shown}
use Rattle.litmus_script.specs.Script.{commands_of}

pub returns : goal.returns
returns g c = record {
  fault = IfErr-weaker c.play.result _ _ (λ fault stopped. inr
      (stops c.args.script.config _ (commands_of c.args.script.commands)
      _ _ fault c.in_ok-chart.ensures.config
      (up_to_shown (λ chart. tt) (λ chart. Unit {0}) _ Draws (λ old new line command before after same drawn. (tt, tt))
      _ (commands_of c.args.script.commands) _ _ _ fault tt stopped))) c.play.ensures.fault;
}
