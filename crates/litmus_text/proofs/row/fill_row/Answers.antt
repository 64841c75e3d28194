use Rattle.std.proofs.Common.{arith}
use Rattle.litmus_text.proofs.BlankLemmas.{blanks_of_front}
use Rattle.litmus_text.proofs.row.fill_row.Goals as goal

pub fill_by_blanks-requires-clause-blanks : goal.fill_by_blanks-requires-clause-blanks
fill_by_blanks-requires-clause-blanks c =
    blanks_of_front c.args.text.now c.args.line.now c.blanks_of.result c.requires (omega arith) c.blanks_of.ensures
