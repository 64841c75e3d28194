use Rattle.std.proofs.Common.{◌≡◌, rules, sym, ◌∙◌}
use Rattle.litmus_script.proofs.CallLemmas.{delivered_next}
use Rattle.script_explained.proofs.NextLemmas.{made_next}
use Rattle.script_explained.specs.Delivery.{delivery_of}
use Rattle.script_explained.proofs.delivery.deliver_picked.Goals as goal

pub returns-clause-made : goal.returns-clause-made
returns-clause-made c =
    let old = c.args.state.now in
    let new = c.deliver_next-answer.new.self in
    let pick = c.args.pick in
    let step = c.deliver_next-answer.ensures.step in
    let told : c.told.result ≡ delivery_of c.args.slice pick old.view new.view = search rules in
    record {
      answered = delivered_next old new _ c.deliver_next-answer.result step;
      step = rw told (sym (made_next c.args.slice c.deliver_next-answer.result _ pick old.view new.view step.next
          c.requires));
    }
