use Rattle.std.proofs.Common.{◌∙◌, refl}
use Rattle.litmus_rounds.specs.PartForm.{text_of_part}
use Rattle.litmus_text.proofs.Pieces.{last_pieces, next_pieces}
use Rattle.litmus_rounds.proofs.part_read.push_parts.Goals as goal

pub loop-part-preserved : goal.loop-part-preserved
loop-part-preserved c =
    next_pieces (text_of_part) c.args.parts.now c.loop-part.part-index c.part-item.result _ _ _
    c.loop-part-test.true c.part-item.is refl c.in_ok-push_part.ensures
    ∙ c.loop-part.invariant

pub returns : goal.returns
returns c =
    last_pieces (text_of_part) c.args.parts.now c.loop-part.part-index _ c.loop-part-test.false ∙ c.loop-part.invariant
