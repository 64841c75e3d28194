use Rattle.std.proofs.Common.{map, sym, ◌∙◌}
use Rattle.std.proofs.lemmas.Result.{IfErr-weaker, IfOk-weaker}
use Rattle.litmus_test.proofs.ReadingLemmas.{IsNoMemoryOr-weaker, at_fault, is_test, other_test}
use Rattle.litmus_test.proofs.FaultLemmas.{among_text}
use Rattle.litmus_test.proofs.test.LitmusTest.read.Goals as goal

pub returns-in-Ok-clause-written : goal.returns-in-Ok-clause-written
returns-in-Ok-clause-written c =
    IfOk-weaker c.read_statements.result _ _
    (λ test. is_test c.args.input.now c.in-Some.first.number (map (λ w. w.now) c.in-Some.first.words.items)
    c.next.new.self c.in-Ok.version test (sym c.of-statements.ensures ∙ c.in-Some.ensures.steps)
    (rw c.as_slice.ensures.value at c.in-Ok.ensures.written))
    c.read_statements.ensures.says

pub returns-in-Ok-clause-only : goal.returns-in-Ok-clause-only
returns-in-Ok-clause-only c =
    IfOk-weaker c.read_statements.result _ _
    (λ test says other is. says.only other
    (other_test c.args.input.now c.in-Some.first.number (map (λ w. w.now) c.in-Some.first.words.items)
    c.next.new.self c.in-Ok.version other (sym c.of-statements.ensures ∙ c.in-Some.ensures.steps)
    (rw c.as_slice.ensures.value at c.in-Ok.ensures.only) is))
    c.read_statements.ensures.says

pub returns-in-Ok-clause-refused : goal.returns-in-Ok-clause-refused
returns-in-Ok-clause-refused c =
    IfErr-weaker c.read_statements.result _ _
    (λ fault. IsNoMemoryOr-weaker _ _ fault
    (λ nothing whole is. nothing whole
    (other_test c.args.input.now c.in-Some.first.number (map (λ w. w.now) c.in-Some.first.words.items)
    c.next.new.self c.in-Ok.version whole (sym c.of-statements.ensures ∙ c.in-Some.ensures.steps)
    (rw c.as_slice.ensures.value at c.in-Ok.ensures.only) is)
    is.checked))
    c.read_statements.ensures.refused

pub returns-in-Ok-clause-line : goal.returns-in-Ok-clause-line
returns-in-Ok-clause-line c =
    IfErr-weaker c.read_statements.result _ _
    (λ fault. at_fault _ _ c.in-Some.first.number (map (λ w. w.now) c.in-Some.first.words.items) c.in-Ok.version fault
    (sym c.of-statements.ensures ∙ c.in-Some.ensures.steps)
    (rw c.as_slice.ensures.value at c.in-Ok.ensures.written))
    c.read_statements.ensures.line

pub returns-in-Ok-clause-fault : goal.returns-in-Ok-clause-fault
returns-in-Ok-clause-fault c =
    IfErr-weaker c.read_statements.result _ _
    (λ fault. among_text _ _ c.in-Some.first.number (map (λ w. w.now) c.in-Some.first.words.items) c.in-Ok.version fault
    (sym c.of-statements.ensures ∙ c.in-Some.ensures.steps)
    (rw c.as_slice.ensures.value at c.in-Ok.ensures.written))
    c.read_statements.ensures.fault
