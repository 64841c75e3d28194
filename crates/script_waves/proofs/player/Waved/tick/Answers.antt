use Rattle.std.proofs.Common.{[], Some, ap, refl, subst, sym}
use Rattle.std.proofs.lemmas.Result.{on_ok_weaker}
use Rattle.litmus_script.specs.Prints.{IsPrinted}
use Rattle.script_waves.proofs.WavesLemmas.{shown_from}
use Rattle.script_waves.proofs.player.Waved.tick.Goals as goal

pub returns-clause-ticked : goal.returns-clause-ticked
returns-clause-ticked g c =
    let old = c.args.self.now in
    let told = c.in_ok-answer.ensures in
    let answer = c.answer.new.self.answer.items in
    on_ok_weaker c.show.result
    (λ shown. record {
      answer = answer;
      made = subst (λ machine. IsPrinted old.machine.config c.args.command old.machine.slices.items
          machine.slices.items (Some []) (Some answer))
          (sym c.show.ensures.machine) told.played;
      shown = shown_from _ _ _ _ _ _ _ _ _ _ told.config (ap (λ named. named.items) told.named) told.count
          (ap (λ values. values.items) told.values) refl shown;
    })
    c.show.ensures.shown
