use Rattle.std.proofs.Common.{◌∙◌}
use Rattle.program_text.specs.Reading.{said_by}
use Rattle.program_text.proofs.JudgedLemmas.{some_program, too_many_settled}
use Rattle.program_text.proofs.reader.Reader.is_full.Goals as goal

pub returns : goal.returns
unfolding said_by
returns c =
    c.has_too_many.ensures
    ∙ too_many_settled (said_by c.args.self.now) (some_program (said_by c.args.self.now) c.requires.begun)
