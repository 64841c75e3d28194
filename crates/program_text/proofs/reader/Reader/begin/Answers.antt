use Rattle.std.proofs.Common.{arith}
use Rattle.program_text.specs.Reading.{said_by}
use Rattle.program_text.proofs.JudgedLemmas.{begins_core}
use Rattle.program_text.proofs.reader.Reader.begin.Goals as goal

pub overflow_cast-core : goal.overflow_cast-core
unfolding said_by
overflow_cast-core c =
    omega (arith, begins_core _ c.args.core c.requires.may, c.requires.counted.allowed.few_cores)
