use Rattle.std.proofs.Common.{arith, take}
use Rattle.core_thread_system.proofs.Made.{is-step-at, settled-at}
use Rattle.core_thread_system.proofs.Ran.{all-ran, next-ran, ran-made, ran-nothing, then-ran-nothing}
use Rattle.core_thread_system.specs.Program.{IsReasonFor}
use Rattle.core_thread_system.proofs.cores.Core.run.Goals as goal

pub loop-place-init : goal.loop-place-init
loop-place-init g c = record {
  ran = ran-nothing g.M.SystemNames.setup c.args.self.now;
  settled = λ at none found. absurd (omega (arith, none));
}

pub returns-in-Err-Limit-clause-ran : goal.returns-in-Err-Limit-clause-ran
returns-in-Err-Limit-clause-ran g c =
    then-ran-nothing g.M.SystemNames.setup c.args.self.now c.loop-place.self c.make.new.self
    (take c.loop-place.place c.args.program.now) c.loop-place.invariant.ran c.in-Err-Limit.ensures.halted

pub returns-in-Err-Refused-clause-ran : goal.returns-in-Err-Refused-clause-ran
returns-in-Err-Refused-clause-ran g c =
    then-ran-nothing g.M.SystemNames.setup c.args.self.now c.loop-place.self c.make.new.self
    (take c.loop-place.place c.args.program.now) c.loop-place.invariant.ran c.in-Err-Refused.ensures.halted

pub returns-in-Err-Refused-clause-step : goal.returns-in-Err-Refused-clause-step
returns-in-Err-Refused-clause-step g c =
    rw c.in-Err-Refused.field-0-is
    (is-step-at (IsReasonFor g.M.SystemNames.setup c.in-Err-Refused.refused) c.args.program.now c.loop-place.place _
    c.loop-place-test.true (rw c.in-Err-Refused.field-0-is at c.in-Err-Refused.ensures.reason))

pub loop-place-preserved : goal.loop-place-preserved
loop-place-preserved g c = record {
  ran =
      next-ran g.M.SystemNames.setup c.args.self.now c.loop-place.self c.make.new.self c.args.program.now
      c.loop-place.place _ c.loop-place-test.true c.loop-place.invariant.ran c.in-Ok.ensures.ran;
  settled = λ at same found.
      settled-at c.args.program.now c.loop-place.place at _ c.make.new.self c.loop-place-test.true same found
      c.in-Ok.ensures.settled;
}

pub returns-clause-ran : goal.returns-clause-ran
returns-clause-ran g c =
    all-ran g.M.SystemNames.setup c.args.self.now c.loop-place.self c.args.program.now c.loop-place.place
    (omega (arith, c.loop-place.auto.place-end, c.loop-place-test.false)) c.loop-place.invariant.ran

pub returns-in-Err-Limit-clause-made : goal.returns-in-Err-Limit-clause-made
returns-in-Err-Limit-clause-made g c =
    let slices = c.slices-few.ensures in
    ran-made g.M.SystemNames.setup c.args.self.now c.make.new.self (take c.loop-place.place c.args.program.now)
    (omega (arith, slices.slices, slices.some)) (omega (arith, slices.slices, slices.few))
    (returns-in-Err-Limit-clause-ran g c)

pub returns-in-Err-Refused-clause-made : goal.returns-in-Err-Refused-clause-made
returns-in-Err-Refused-clause-made g c =
    let slices = c.slices-few.ensures in
    ran-made g.M.SystemNames.setup c.args.self.now c.make.new.self (take c.loop-place.place c.args.program.now)
    (omega (arith, slices.slices, slices.some)) (omega (arith, slices.slices, slices.few))
    (returns-in-Err-Refused-clause-ran g c)

pub returns-clause-made : goal.returns-clause-made
returns-clause-made g c =
    let slices = c.slices-few.ensures in
    ran-made g.M.SystemNames.setup c.args.self.now c.loop-place.self c.args.program.now
    (omega (arith, slices.slices, slices.some)) (omega (arith, slices.slices, slices.few)) (returns-clause-ran g c)

pub returns-clause-settled : goal.returns-clause-settled
returns-clause-settled g c = λ at last found.
    c.loop-place.invariant.settled at (omega (arith, last, c.loop-place.auto.place-end, c.loop-place-test.false)) found
