use Rattle.std.proofs.Common.{◌∙◌, refl}
use Rattle.litmus_rounds.specs.PartForm.{value_of}
use Rattle.litmus_text.proofs.Pieces.{last_pieces, next_values}
use Rattle.litmus_rounds.proofs.part_form.push_values.Goals as goal

pub loop-value-preserved : goal.loop-value-preserved
loop-value-preserved c =
    next_values (value_of) c.args.values.now c.loop-value.value-index _ _ _ _
    c.loop-value-test.true refl c.in_ok-push_value.ensures
    ∙ c.loop-value.invariant

pub returns : goal.returns
returns c =
    last_pieces (value_of) c.args.values.now c.loop-value.value-index _ c.loop-value-test.false ∙ c.loop-value.invariant
