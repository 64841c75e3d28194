use Rattle.std.proofs.Common.{inl, inr, append_assoc, codes, decimal, subst, ◌++◌, ◌≡◌, List, ℕ}
use Rattle.std.specs.Fmt.{WritesInCalls}
use Rattle.litmus_test.specs.OutcomesText.{counter_label}
use Rattle.litmus_test.proofs.Cells.{last_cell, next_cell}
use Rattle.litmus_test.proofs.outcomes.text.write_counters.Goals as goal

-- the pieces of a cell, as they are written and as they are named
regrouped : (word value : List ℕ)
    → codes " [" ++ (word ++ (codes "]=" ++ value))
    ≡ codes " " ++ (codes "[" ++ word ++ codes "]") ++ codes "=" ++ value
regrouped word value = simp append_assoc

pub loop-counter-preserved : goal.loop-counter-preserved
loop-counter-preserved g c = λ new rest.
    c.loop-counter.invariant new
    (next_cell g.W.Write.write_str_gives counter_label _ _ _ _ c.in-Some.counter.now c.in-Some.value.now
    c.in-Some.ensures.steps.0 c.in-Some.ensures.steps.1 _ _ new
    (subst (λ text. WritesInCalls g.W.Write.write_str_gives c.loop-counter.out text c.write.new.self)
    (regrouped (decimal c.in-Some.counter.now.0) (decimal c.in-Some.value.now)) c.in_ok-write.ensures.writes)
    rest)

pub returns : goal.returns
returns g c =
    c.loop-counter.invariant c.loop-counter.out
    (last_cell g.W.Write.write_str_gives counter_label _ _
    (elim c.in-None.ensures.steps [ inl none ↦ inl none.1.0 | inr none ↦ inr none.1.0 ]) _)
