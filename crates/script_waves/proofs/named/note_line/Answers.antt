use Rattle.std.proofs.Common.{IsTrue, All, refl, sym, subst}
use Rattle.std.proofs.lemmas.List.Elements.{All-push}
use Rattle.litmus_text.specs.Command.{HasLine}
use Rattle.script_waves.proofs.PlacedLemmas.{all_if}
use Rattle.script_waves.proofs.named.note_line.Goals as goal

pub returns-clause-placed : goal.returns-clause-placed
returns-clause-placed c = λ placed.
    let Is = HasLine c.args.config.now in
    let below = (c.is_new.ensures.0 (subst IsTrue (sym c.if-not-is_new.false) refl)).0 in
    subst (All Is) (sym c.push.ensures.items)
    (all_if Is _ _ _ (All-push Is c.args.named.now.items c.in-Some.line placed below) placed)

pub returns-in_err-push-clause-placed : goal.returns-in_err-push-clause-placed
returns-in_err-push-clause-placed c = λ placed.
    let Is = HasLine c.args.config.now in
    let below = (c.is_new.ensures.0 (subst IsTrue (sym c.if-not-is_new.false) refl)).0 in
    subst (All Is) (sym c.push.ensures.items)
    (all_if Is _ _ _ (All-push Is c.args.named.now.items c.in-Some.line placed below) placed)
