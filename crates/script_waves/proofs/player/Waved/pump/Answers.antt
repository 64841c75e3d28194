use Rattle.std.proofs.Common.{◌≡◌, ap, refl, subst, ◌∙◌}
use Rattle.std.proofs.lemmas.Result.{on_ok_weaker}
use Rattle.litmus_script.proofs.PumpLemmas.{pumps_shown}
use Rattle.script_waves.specs.Waves.{IsNextTick, shown_by}
use Rattle.script_waves.proofs.player.Waved.pump.Goals as goal

pub returns-clause-ticked : goal.returns-clause-ticked
returns-clause-ticked g c =
    let config = c.args.self.now.machine.config in
    let last = c.pump_slices.new.deliverer in
    on_ok_weaker c.show.result
    (λ shown. record {
      pumped = c.in_ok-_pumped._pumped;
      last = shown_by last;
      middle = g.W.Write.contents c.pump_slices.new.out;
      pumps = pumps_shown shown_by
          (λ p. p.machine.config ≡ config) _ (IsNextTick config)
          (λ old new slice answer before after same made. (
            made.0 ∙ same,
            subst (λ k. IsNextTick k (shown_by old) slice answer before after (shown_by new)) same made.1,
          ))
          _ _ _ _ _ _ _ refl c.in_ok-_pumped.ensures.pumped;
      same = ap (λ machine. machine.slices.items) c.show.ensures.machine;
      shown = rw c.pump_slices.ensures.config at shown;
    })
    c.show.ensures.shown
