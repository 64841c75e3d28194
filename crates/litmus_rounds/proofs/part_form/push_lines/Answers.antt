use Rattle.std.proofs.Common.{◌∙◌, refl}
use Rattle.litmus_rounds.specs.PartForm.{line_of}
use Rattle.litmus_text.proofs.Pieces.{last_pieces, next_pieces}
use Rattle.litmus_rounds.proofs.part_form.push_lines.Goals as goal

pub loop-row-preserved : goal.loop-row-preserved
loop-row-preserved c =
    next_pieces (line_of c.args.seed) c.args.rows.now c.loop-row.row-index c.row-item.result _ _ _
    c.loop-row-test.true c.row-item.is refl c.in_ok-push_line.ensures
    ∙ c.loop-row.invariant

pub returns : goal.returns
returns c =
    last_pieces (line_of c.args.seed) c.args.rows.now c.loop-row.row-index _ c.loop-row-test.false ∙ c.loop-row.invariant
