use Rattle.std.proofs.Common.{subst}
use Rattle.litmus_text.specs.declared.settings.Settings.{Settings}
use Rattle.simulator.specs.Simulator.{IsNewSimulator}
use Rattle.lockup_c.proofs.made.build.Goals as goal

pub returns-clause-made : goal.returns-clause-made
returns-clause-made c = (
  c.in_ok-simulator.simulator,
  c.in_ok-new.ensures.ok,
  subst (λ (settings : Settings). IsNewSimulator settings c.in_ok-simulator.simulator) c.in_ok-settings.ensures
      c.in_ok-simulator.ensures.new,
)
