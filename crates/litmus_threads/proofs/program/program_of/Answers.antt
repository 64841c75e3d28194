use Rattle.litmus_threads.proofs.Programs.{program-grows, program-whole}
use Rattle.litmus_threads.proofs.program.program_of.Goals as goal

pub loop-step-preserved : goal.loop-step-preserved
loop-step-preserved c =
    program-grows c.args.steps.now c.loop-step.step-index _ c.loop-step.words c.next_word.new.self c.next_word.result
    _ _ _ _ _ c.loop-step-test.true c.loop-step.invariant c.next_word.ensures c.in_ok-push.ensures.items
    c.step_of.ensures c.in_ok-push-2.ensures.items

pub returns : goal.returns
returns c = program-whole c.args.steps.now c.loop-step.step-index _ c.loop-step.words _ c.loop-step-test.false
    c.loop-step.invariant
