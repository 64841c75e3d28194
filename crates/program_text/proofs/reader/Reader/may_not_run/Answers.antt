use Rattle.std.proofs.Common.{sym, ◌∙◌}
use Rattle.program_text.specs.Reading.{said_by}
use Rattle.program_text.proofs.JudgedLemmas.{has_program-of, or_else}
use Rattle.program_text.proofs.reader.Reader.may_not_run.Goals as goal

pub returns-else-lacks_core : goal.returns-else-lacks_core
unfolding said_by
returns-else-lacks_core c =
    or_else _ _ _ c.if-lacks_core.ensures
    (c.has_program.ensures ∙ sym (has_program-of c.args.core c.args.self.now.programs.cores.items))
