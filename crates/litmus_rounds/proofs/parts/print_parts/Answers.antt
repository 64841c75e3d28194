use Rattle.std.proofs.Common.{arith, inl, sym}
use Rattle.mshr_file.specs.Miss.{bound_of}
use Rattle.litmus_rounds.proofs.PartLemmas.{known_at, printed_last, printed_next, printed_none}
use Rattle.litmus_rounds.proofs.parts.print_parts.Goals as goal
use Rattle.litmus_rounds.specs.Parts.{IsPartOf}
use mathlib.Core.Bool.{true≢false}
use Rattle.std.proofs.Common.{◌∙◌}

pub loop-done-init : goal.loop-done-init
loop-done-init g c = record {
  within = omega arith;
  printed = λ _. printed_none c.args.test.now (bound_of c.args.test.now.misses c.args.test.now.config) c.args.sum
      c.args.seed c.args.most _;
}

pub loop-done-preserved : goal.loop-done-preserved
loop-done-preserved g c = record {
  within = omega arith;
  printed = λ are. printed_next c.args.test.now (bound_of c.args.test.now.misses c.args.test.now.config) c.args.sum
      c.args.seed c.args.most c.loop-done.done _ c.in_ok-ended.ended _ _ _ (c.loop-done.invariant.printed are)
      (c.in_ok-ended.ensures.printed
      (known_at (IsPartOf c.args.test.now (bound_of c.args.test.now.misses c.args.test.now.config)) c.args.known.now _
      _ c.get-known.ensures.lookup.0 c.get-known.ensures.lookup.1 are));
}

-- a part with a round that has no outcome is the last
pub returns-then-not-is_done-clause-printed : goal.returns-then-not-is_done-clause-printed
returns-then-not-is_done-clause-printed g c = λ are.
    printed_last c.args.test.now (bound_of c.args.test.now.misses c.args.test.now.config) c.args.sum c.args.seed
    c.args.most c.loop-done.done _ c.args.rounds c.in_ok-ended.ended _ _ _ (c.loop-done.invariant.printed are)
    (c.in_ok-ended.ensures.printed
    (known_at (IsPartOf c.args.test.now (bound_of c.args.test.now.misses c.args.test.now.config)) c.args.known.now _
    _ c.get-known.ensures.lookup.0 c.get-known.ensures.lookup.1 are))
    (λ is. true≢false (sym (c.is_done.ensures.1 is) ∙ c.if-not-is_done.true)) (omega arith)

pub returns-clause-printed : goal.returns-clause-printed
returns-clause-printed g c = λ are. record {
  done = c.loop-done.done;
  within = c.loop-done.invariant.within;
  printed = c.loop-done.invariant.printed are;
  whole = inl (omega (arith, c.loop-done.invariant.within, c.loop-done-test.false));
}
