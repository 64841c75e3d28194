use Rattle.std.proofs.Common.{◌≡◌, arith, subst}
use Rattle.std.specs.Prelude.{IsSomeAnd}
use Rattle.core_thread_system.specs.Core.{asked_of}
use Rattle.litmus_threads.proofs.Asked.{asked-inside, asked-more, asked-still}
use Rattle.receipt_ledger.specs.declared.receipt.Ask.{Ask}
use Rattle.litmus_threads.proofs.made.are_asked.Goals as goal
use Rattle.litmus_threads.proofs.made.are_asked.Goals.{in-Some+else-not-is_asked, in_default}

pub overflow_add-next : goal.overflow_add-next
overflow_add-next g c =
    let asked = asked_of c.args.core.now c.args.slice.0 in
    let inside =
    asked-inside asked c.loop-step.next c.in-Some.word c.in-Some.op
    (subst (λ found. IsSomeAnd found (λ (ask : Ask). (ask.request.word ≡ c.in-Some.word)
    × (ask.request.op ≡ c.in-Some.op)))
    c.asked.ensures (c.is_asked.ensures c.if-not-is_asked.false)) in
    let long = c.accepted-accepted.ensures in
    let small = c.accepted-accepted.type_inv in
    omega (arith, inside, long, small)

pub loop-step-preserved : goal.loop-step-preserved
loop-step-preserved g c =
    let steps = c.args.steps.now in
    let asked = asked_of c.args.core.now c.args.slice.0 in
    let config = c.args.config.now in
    let i = c.loop-step.step-index in
    let so_far = c.loop-step.invariant in
    let inside = c.loop-step-test.true in
    elim c.match-access_in.branch [
      | in-Some+else-not-is_asked w ↦
          let more = asked-more config c.args.slice.0 steps asked i c.loop-step.next _ _ _ inside w.in-Some.ensures
          (subst (λ found. IsSomeAnd found (λ (ask : Ask). (ask.request.word ≡ w.in-Some.word)
          × (ask.request.op ≡ w.in-Some.op)))
          w.asked.ensures (w.is_asked.ensures w.if-not-is_asked.false))
          so_far.asked in
          rw w.next-is (record { within = more.0; asked = more.1 })
      | in_default w ↦
          rw w.next-is (record {
            within = so_far.within;
            asked = asked-still config c.args.slice.0 steps asked i c.loop-step.next _ inside
                w.in_default.ensures so_far.asked;
          })
    ]
