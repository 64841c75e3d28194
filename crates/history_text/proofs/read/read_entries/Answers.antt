use Rattle.std.proofs.Common.{◌∙◌}
use Rattle.history_text.proofs.Traces.{trace_more, trace_none, trace_refused}
use Rattle.history_text.proofs.read.read_entries.Goals as goal

pub lines-init : goal.lines-init
lines-init c = (
  λ some are. trace_none _ _ some _ are c.new-histories.ensures.told,
  c.new-histories.ensures.extent,
)

pub lines-preserved-in-Continue-1 : goal.lines-preserved-in-Continue-1
lines-preserved-in-Continue-1 c = (
  λ some are.
      let reading = rw (c.read.ensures.read c.lines-test.true) at (c.lines.invariant.0 some are) in
      trace_more _ _ _ _ _ _ c.in-Ok.line (rw c.as_slice.ensures.value at c.in-Ok.ensures.written)
      (λ told were. rw c.told_by.ensures at (c.in_ok-tell.ensures.told told were)) reading,
  c.in_ok-tell.ensures.extent ∙ c.lines.invariant.1,
)

pub lines-preserved : goal.lines-preserved
lines-preserved c = (
  λ some are.
      let reading = rw (c.read.ensures.read c.lines-test.true) at (c.lines.invariant.0 some are) in
      absurd (trace_refused _ _ _ _ _ (rw c.as_slice.ensures.value at c.in_default.ensures.refused) reading),
  c.lines.invariant.1,
)
