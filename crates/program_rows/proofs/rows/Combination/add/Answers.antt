use Rattle.std.proofs.Common.{◌∙◌, Some, ap, sym, refl}
use Rattle.std.specs.Option.{option_map}
use Rattle.program_rows.proofs.HeldLemmas.{same_counts}
use Rattle.program_rows.proofs.rows.Combination.add.Goals as goal

pub returns : goal.returns
returns c =
    let counts = same_counts c.as_slice.result.now c.as_slice-2.result.now c.if-ne.ensures in
    let same = sym c.as_slice.ensures.value ∙ (counts ∙ c.as_slice-2.ensures.value) in record {
      held = ap (option_map (λ row. row.counts.items)) (sym c.in-Some.ensures.value) ∙ ap Some same;
      kept = λ other some. refl;
      others = λ other differs. refl;
    }
