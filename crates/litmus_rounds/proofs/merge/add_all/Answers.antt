use Rattle.std.proofs.Common.{ap, map, subst, sym, take, take_all, ◌∙◌, [], ◌∷◌, ◌++◌}
use Rattle.std.proofs.lemmas.List.{map-append, take_more}
use Rattle.litmus_rounds.specs.declared.part.Part.{Part}
use Rattle.litmus_rounds.specs.Merge.{IsMergeOf}
use Rattle.litmus_rounds.specs.declared.merge.Filed.{Filed}
use Rattle.litmus_rounds.proofs.merge.add_all.Goals as goal

pub loop-next-preserved : goal.loop-next-preserved
loop-next-preserved c =
    let part : Filed → Part = λ filed. filed.part in
    let items = c.args.filed.now in
    let i = c.loop-next.next-index in
    let next = c.next-item.result in
    subst (λ parts. IsMergeOf parts c.add.new.self)
    (sym (map-append part (take i items) (next ∷ []))
    ∙ ap (map part) (ap (λ (n : Filed). take i items ++ n ∷ []) c.next-item.is
    ∙ sym (take_more items i next c.loop-next-test.true)))
    (c.in_ok-add.ensures _ c.loop-next.invariant)

pub returns : goal.returns
returns c =
    let part : Filed → Part = λ filed. filed.part in
    subst (λ items. IsMergeOf (map part items) c.loop-next.merged)
    (take_all c.loop-next.next-index c.args.filed.now c.loop-next-test.false) c.loop-next.invariant
