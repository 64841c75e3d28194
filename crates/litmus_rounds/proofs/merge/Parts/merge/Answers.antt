use Rattle.std.proofs.Common.{IsPermutation, subst, sym}
use Rattle.std.proofs.lemmas.List.Elements.{All-map}
use Rattle.std.proofs.lemmas.List.Sorted.{All-permutation}
use Rattle.litmus_rounds.specs.declared.part.Part.{Part}
use Rattle.litmus_rounds.specs.Parts.{IsPartOf}
use Rattle.litmus_rounds.specs.declared.merge.Filed.{Filed}
use Rattle.litmus_rounds.proofs.merge.Parts.merge.Goals as goal

pub returns : goal.returns
returns c = λ gapless test bound all.
    let part : Filed → Part = λ filed. filed.part in
    let Is : Filed → Type 0 = λ filed. IsPartOf test bound filed.part in
    c.in_ok-miss_behind.ensures _ c.in_ok-merged.ensures gapless test bound
    (All-map (IsPartOf test bound) part _ (All-permutation Is _ _
    (subst (IsPermutation c.args.self.now.filed.items) (sym c.as_slice.ensures.value) c.in_ok-sort.ensures) all))
