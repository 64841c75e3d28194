use Rattle.std.proofs.Common.{arith, ◌+◌, ◌∙◌}
use Rattle.program_text.proofs.BodyLemmas.{spread_all, spread_more, spread_none}
use Rattle.program_text.proofs.repeat.push_accesses.Goals as goal

pub loop-word-init : goal.loop-word-init
loop-word-init c = spread_none c.args.op c.args.range.first c.args.steps.now.items

pub loop-word-preserved : goal.loop-word-preserved
loop-word-preserved c =
    c.in_ok-push.ensures.items
    ∙ spread_more c.args.op c.args.range.first c.loop-word.word c.args.steps.now.items c.loop-word.steps.items
    (omega arith) c.loop-word.invariant

pub returns : goal.returns
returns c = λ order.
    spread_all c.args.op c.args.range.first c.args.range.last c.loop-word.word c.args.steps.now.items
    c.loop-word.steps.items (omega arith) c.loop-word.invariant

pub returns-in_ok-push : goal.returns-in_ok-push
returns-in_ok-push c = λ order.
    spread_all c.args.op c.args.range.first c.args.range.last (c.loop-word.word + 1) c.args.steps.now.items
    c.push.new.self.items (omega arith)
    (c.in_ok-push.ensures.items
    ∙ spread_more c.args.op c.args.range.first c.loop-word.word c.args.steps.now.items c.loop-word.steps.items
    (omega arith) c.loop-word.invariant)
