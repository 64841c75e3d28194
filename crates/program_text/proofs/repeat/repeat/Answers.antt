use Rattle.std.proofs.Common.{arith, sym, append-nil, ◌-◌, ◌+◌, ◌∙◌}
use Rattle.program_text.proofs.BodyLemmas.{round_more, round_within, rounds_all, written_nothing}
use Rattle.program_text.proofs.repeat.repeat.Goals as goal

pub returns-then-end-start : goal.returns-then-end-start
returns-then-end-start c =
    written_nothing c.args.start c.args.times c.args.steps.now.items
    (omega (arith, c.len-end.ensures, c.args.steps.now.ok.0))

pub loop-round-init : goal.loop-round-init
loop-round-init c = sym (append-nil c.args.steps.now.items)

pub loop-round-preserved : goal.loop-round-preserved
loop-round-preserved c =
    round_more c.args.steps.now.items c.loop-round.steps.items c.push_again.new.steps.items c.args.start
    c.len-end.result (c.loop-round._round - 1) (c.loop-round._round + 1 - 1)
    (omega (arith, c.len-end.ensures, c.args.steps.now.ok.0))
    (omega (arith, c.len-end.ensures, c.args.steps.now.ok.0)) (omega arith) c.loop-round.invariant
    c.in_ok-push_again.ensures

pub returns : goal.returns
returns c =
    rounds_all c.args.steps.now.items c.loop-round.steps.items c.args.start (c.loop-round._round - 1) c.args.times
    (omega arith) c.loop-round.invariant

pub push_again-requires-clause-within : goal.push_again-requires-clause-within
push_again-requires-clause-within c =
    omega (
      arith,
      c.len-end.ensures,
      c.args.steps.now.ok.0,
      c.loop-round.steps.ok.0,
      round_within c.args.steps.now.items c.loop-round.steps.items c.args.start (c.loop-round._round - 1)
          c.loop-round.invariant,
    )
