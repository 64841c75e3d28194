use Rattle.std.proofs.Common.{◌≡◌, true, map, sym, ◌∙◌}
use Rattle.std.proofs.lemmas.Result.{IfErr-weaker, IfOk-weaker}
use Rattle.history_text.proofs.Reading.{fault_of_history, no_statements, of_history, other_first}
use Rattle.history_text.proofs.read.read_histories.Goals as goal

pub returns-then-is_first-clause-told : goal.returns-then-is_first-clause-told
returns-then-is_first-clause-told c =
    IfOk-weaker c.read_lines.result _ _
    (λ it reads. of_history _ (c.in-Some.first.number, map (λ w. w.now) c.in-Some.first.words.items) _ it
    (sym c.of-statements.ensures ∙ c.in-Some.ensures.steps)
    (rw c.as_slice.ensures.value at (c.is_first.ensures.0 c.if-is_first.true)) reads)
    c.read_lines.ensures.read

pub returns-then-is_first-clause-fault : goal.returns-then-is_first-clause-fault
returns-then-is_first-clause-fault c =
    IfErr-weaker c.read_lines.result _ _
    (λ fault is. fault_of_history _ (c.in-Some.first.number, map (λ w. w.now) c.in-Some.first.words.items) _ fault
    (sym c.of-statements.ensures ∙ c.in-Some.ensures.steps)
    (rw c.as_slice.ensures.value at (c.is_first.ensures.0 c.if-is_first.true)) is)
    c.read_lines.ensures.fault

pub read_trace-requires : goal.read_trace-requires
read_trace-requires c = record { other = no_statements _ (sym c.of-statements.ensures ∙ c.in_default.ensures.steps.0) }

pub read_trace-requires-else-is_first : goal.read_trace-requires-else-is_first
read_trace-requires-else-is_first c = record {
  other = other_first _ (c.in-Some.first.number, map (λ w. w.now) c.in-Some.first.words.items) _
      (sym c.of-statements.ensures ∙ c.in-Some.ensures.steps)
      (λ begins. let is : c.is_first.result ≡ true =
      (c.is_first.ensures.1 (rw c.as_slice.ensures.value begins)) in cc);
}
