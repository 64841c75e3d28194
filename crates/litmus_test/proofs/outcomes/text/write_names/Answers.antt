use Rattle.std.proofs.Common.{inl, inr}
use Rattle.litmus_test.specs.declared.test.NamedReply.{NamedReply}
use Rattle.litmus_test.proofs.Cells.{last_cell, next_cell}
use Rattle.litmus_test.proofs.outcomes.text.write_names.Goals as goal

pub loop-named-preserved : goal.loop-named-preserved
loop-named-preserved g c = λ new rest.
    c.loop-named.invariant new
    (next_cell g.W.Write.write_str_gives (λ (named : NamedReply). named.name.now) _ _ _ _
    c.in-Some.named.now c.in-Some.value.now
    c.in-Some.ensures.steps.0 c.in-Some.ensures.steps.1 _ _ new c.in_ok-write_name.ensures rest)

pub returns : goal.returns
returns g c =
    c.loop-named.invariant c.loop-named.out
    (last_cell g.W.Write.write_str_gives (λ (named : NamedReply). named.name.now) _ _
    (elim c.in-None.ensures.steps [ inl none ↦ inl none.1.0 | inr none ↦ inr none.1.0 ]) _)
