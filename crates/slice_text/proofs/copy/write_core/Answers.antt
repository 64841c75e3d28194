use Rattle.std.proofs.Common.{sym, subst, ◌∙◌}
use Rattle.std.proofs.lemmas.Result.{on_ok_weaker}
use Rattle.std.proofs.Output.{writes_in_calls_append}
use Rattle.std.specs.Fmt.{WritesInCalls}
use Rattle.slice_text.proofs.Pieces.{whole_copy}
use Rattle.slice_text.proofs.copy.write_core.Goals as goal

pub returns : goal.returns
returns g c =
    let took = g.W.Write.write_str_gives in
    let targets = rw (c.as_slice.ensures.value, c.targets.ensures) at c.write_targets.ensures in
    let whole = whole_copy c.args.core c.args.line _ c.in-Some.copy _ (sym c.copy.ensures ∙ c.in-Some.is)
    (sym c.is_gone.ensures ∙ c.if-is_gone.false) in
    on_ok_weaker c.write_targets.result
    (λ rest. subst (λ text. WritesInCalls took c.args.out.now text c.write_targets.new.out) whole
    (writes_in_calls_append took _ _ _ _ _ c.in_ok-write_held.ensures rest))
    targets
