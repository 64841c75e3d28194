use Rattle.std.proofs.Common.{refl, sym, ◌∙◌}
use Rattle.std.proofs.lemmas.Fn.{says_at}
use Rattle.cache_array.proofs.Victims.{none_so_far, one_may_go}
use Rattle.cache_array.proofs.set.some_allowed.Goals as goal

pub returns-then-allowed : goal.returns-then-allowed
returns-then-allowed g c =
    λ test answers.
    let answer = answers c.slot-item.result.value c.allowed.result (says_at g.F.Fn c.allowed.ensures refl) in
    sym (one_may_go test c.args.slots.now c.loop-slot.slot-index c.slot-item.result
    c.loop-slot-test.true c.slot-item.is (sym answer ∙ c.if-allowed.true))

pub loop-slot-preserved : goal.loop-slot-preserved
loop-slot-preserved g c =
    λ test answers.
    let answer = answers c.slot-item.result.value c.allowed.result (says_at g.F.Fn c.allowed.ensures refl) in
    none_so_far test c.args.slots.now c.loop-slot.slot-index c.slot-item.result
    c.loop-slot-test.true c.slot-item.is (c.loop-slot.invariant test answers) (sym answer ∙ c.if-allowed.false)
