use Rattle.std.proofs.Common.{◌∙◌}
use Rattle.std.proofs.lemmas.Result.{err_from_is_err_and}
use Rattle.history_text.proofs.Reading.{first_fault, reading_more, reading_none}
use Rattle.history_text.proofs.read.read_lines.Goals as goal

pub lines-init : goal.lines-init
lines-init c = (reading_none _ _ c.new-histories.ensures.told, c.new-histories.ensures.extent)

pub lines-preserved : goal.lines-preserved
lines-preserved c = (
  reading_more _ _ _ _ _ c.in_ok-read.ensures.read
      (rw (c.read.ensures.read c.lines-test.true) at c.lines.invariant.0),
  c.in_ok-read.ensures.extent ∙ c.lines.invariant.1,
)

pub returns-in_err-read-clause-fault : goal.returns-in_err-read-clause-fault
returns-in_err-read-clause-fault c =
    let p = err_from_is_err_and c.from_residual.result c.from_residual.ensures.1 in
    rw (p.1, p.2)
    (first_fault _ _ _ c.lines.histories _ (rw (c.read.ensures.read c.lines-test.true) at c.lines.invariant.0)
    c.in_err-read.ensures.fault)
