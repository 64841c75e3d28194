use Rattle.std.proofs.Common.{◌++◌, ◌∙◌, ap, List, ℕ}
use Rattle.litmus_rounds.specs.PartForm.{text_of_parts}
use Rattle.litmus_rounds.proofs.PieceLemmas.{whole_text}
use Rattle.litmus_rounds.proofs.part_read.text_behind.Goals as goal

pub returns-in-Some : goal.returns-in-Some
returns-in-Some c =
    let (same, behind, long) = c.in-Some.ensures.cases in
    whole_text c.args.text.now c.as_slice.result.now c.in-Some.rest.now _ same behind
    (c.as_slice.ensures.value ∙ c.in_ok-push_parts.ensures
    ∙ ap (λ (t : List ℕ). t ++ text_of_parts c.args.parts.now) c.new-written.ensures.items)
