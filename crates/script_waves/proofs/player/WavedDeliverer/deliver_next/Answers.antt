use Rattle.std.proofs.Common.{ap, refl, subst, sym, ◌∙◌}
use Rattle.litmus_script.specs.Pump.{IsDelivered}
use Rattle.script_waves.proofs.WavesLemmas.{next_from}
use Rattle.script_waves.proofs.player.WavedDeliverer.deliver_next.Goals as goal

pub returns-clause-delivers : goal.returns-clause-delivers
returns-clause-delivers g c =
    let old = c.args.self.now in
    let made = c.in_ok-delivered.ensures.delivers in
    let shown = c.in_ok-show_next.ensures in (
      ap (λ machine. machine.config) shown.machine ∙ made.0,
      record {
        made = subst (λ machine. IsDelivered c.args.slice c.in_ok-delivered.delivered old.machine.slices.items
            machine.slices.items) (sym shown.machine) made.1.0;
        shown = next_from _ _ c.in_ok-delivered.delivered _ _ _ _ _ _ made.0 refl refl refl made.1.1 shown.shown;
      },
    )
