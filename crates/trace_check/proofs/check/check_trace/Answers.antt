use Rattle.std.proofs.Common.{map, sym, ◌∙◌}
use Rattle.std.proofs.lemmas.Result.{IfErr-weaker}
use Rattle.trace_check.proofs.RefusalLemmas.{at_fault, no_text, IsNoMemoryOrLine-weaker}
use Rattle.trace_check.proofs.check.check_trace.Goals as goal

pub returns-in-Ok-clause-refused : goal.returns-in-Ok-clause-refused
returns-in-Ok-clause-refused c =
    IfErr-weaker c.check_lines.result _ _
    (λ fault. IsNoMemoryOrLine-weaker _ _ fault
    (no_text c.args.input.now c.in-Some.first.number
    (map (λ w. w.now) c.in-Some.first.words.items) c.next.new.self c.in-Ok.version
    (sym c.of-statements.ensures ∙ c.in-Some.ensures.steps)
    (rw c.as_slice.ensures.value at c.in-Ok.ensures.written)))
    c.check_lines.ensures.refused

pub returns-in-Ok-clause-line : goal.returns-in-Ok-clause-line
returns-in-Ok-clause-line c =
    IfErr-weaker c.check_lines.result _ _
    (λ fault. at_fault _ _ c.in-Some.first.number (map (λ w. w.now) c.in-Some.first.words.items) c.in-Ok.version fault
    (sym c.of-statements.ensures ∙ c.in-Some.ensures.steps)
    (rw c.as_slice.ensures.value at c.in-Ok.ensures.written))
    c.check_lines.ensures.line
