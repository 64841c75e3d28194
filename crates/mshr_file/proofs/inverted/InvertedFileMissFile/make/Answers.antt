use Rattle.std.proofs.Common.{ap, length, sym, ◌∙◌}
use Rattle.mshr_file.specs.Waiting.{by_line}
use Rattle.mshr_file.proofs.Entries.{none_waits}
use Rattle.mshr_file.proofs.inverted.InvertedFileMissFile.make.Goals as goal

pub invariant_of-result : goal.invariant_of-result
invariant_of-result c = (
  c.new-table.ensures.kept,
  sym
      (ap (λ entries. length (by_line entries)) c.new-table.ensures.empty ∙ ap length none_waits),
)

pub returns-clause-empty : goal.returns-clause-empty
returns-clause-empty c = ap by_line c.new-table.ensures.empty ∙ none_waits
