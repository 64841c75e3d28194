use Rattle.std.proofs.Common.{sym, ◌∙◌}
use Rattle.litmus_script.proofs.CallLemmas.{delivered_next}
use Rattle.script_explained.proofs.NextLemmas.{nothing_next}
use Rattle.script_explained.proofs.delivery.deliver_next.Goals as goal

pub returns-in_default-clause-made : goal.returns-in_default-clause-made
returns-in_default-clause-made c =
    let old = c.args.state.now in
    let new = c.deliver_next.new.self in
    let step = c.deliver_next.ensures.step in
    record {
      answered = delivered_next old new _ c.deliver_next.result step;
      step = sym (nothing_next c.args.slice c.deliver_next.result _ old.view new.view
          (step.next ∙ sym c.next.ensures.next) (λ pick is. c.in_default.not-Moved pick is));
    }
