use Rattle.std.proofs.Common.{◌≡◌, ◌∙◌, arith, inl, inr}
use Rattle.litmus_walk.proofs.DrawLemmas.{all_made, made_more, made_none}
use Rattle.litmus_walk.proofs.WalkLemmas.{walks_none, walks_then}
use Rattle.litmus_walk.proofs.round.walk_on.Goals as goal

pub loop-made-init : goal.loop-made-init
loop-made-init c = record {
  walks = walks_none _ _;
  done = λ have. have;
  made = rw c.seed_from_u64-generator.ensures (made_none _ _ _ _);
}

pub loop-made-preserved : goal.loop-made-preserved
loop-made-preserved c = record {
  walks = walks_then _ _ _ _ c.loop-made.invariant.walks c.in_ok-go.ensures.walks;
  done = λ have. c.in_ok-go.ensures.done (c.loop-made.invariant.done have);
  made =
      let draws = rw (c.as_slice.ensures.value, c.in_ok-list_moves.ensures) at c.in-Some.ensures.some in
      made_more c.args.test.now.threads.items c.args.lines.now _ c.loop-made.generator _ c.loop-made.made _ _ _
      c.in-Some.to c.loop-made.invariant.made draws c.in-Some.ensures.next c.in_ok-go.ensures.goes;
}

pub go-requires : goal.go-requires
go-requires c = c.loop-made.invariant.walks.config ∙ c.requires

pub returns-in_default-clause-draws : goal.returns-in_default-clause-draws
returns-in_default-clause-draws c =
    let none = rw (c.as_slice.ensures.value, c.in_ok-list_moves.ensures) at c.in_default.ensures.none in
    all_made c.args.test.now.threads.items c.args.lines.now c.args.seed c.args.most c.loop-made.made
    c.loop-made.generator _ _ c.loop-made.invariant.made (omega (arith, c.loop-made-test.true)) (inl none)

pub returns-clause-draws : goal.returns-clause-draws
returns-clause-draws c =
    let all : c.loop-made.made ≡ c.args.most = omega (arith, c.loop-made.auto.made-end, c.loop-made-test.false) in
    all_made c.args.test.now.threads.items c.args.lines.now c.args.seed c.args.most c.loop-made.made
    c.loop-made.generator _ _ c.loop-made.invariant.made c.loop-made.auto.made-end (inr all)
