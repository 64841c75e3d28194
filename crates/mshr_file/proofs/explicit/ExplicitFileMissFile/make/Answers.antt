use Rattle.std.proofs.Common.{ap, ◌∙◌}
use Rattle.mshr_file.specs.Register.{misses_of}
use Rattle.mshr_file.proofs.Steps.{none_open}
use Rattle.mshr_file.proofs.explicit.ExplicitFileMissFile.make.Goals as goal

pub returns-clause-empty : goal.returns-clause-empty
returns-clause-empty c = ap misses_of c.in_ok-table.ensures.free ∙ none_open c.mshrs.result
