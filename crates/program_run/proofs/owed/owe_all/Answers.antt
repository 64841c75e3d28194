use Rattle.std.proofs.Common.{ℕ, arith, length-set, map, ◌∙◌}
use Rattle.program_run.proofs.UsageLemmas.{all_changed, one_changed}
use Rattle.program_run.proofs.owed.owe_all.Goals as goal

pub loop-slice-preserved : goal.loop-slice-preserved
loop-slice-preserved c = record {
  many = length-set c.loop-slice.owed.items c.loop-slice.slice c.args.pace ∙ c.loop-slice.invariant.many;
  whole = one_changed (λ (left : ℕ). c.args.pace) (map (λ left. c.args.pace) c.args.owed.now.items) c.loop-slice.owed.items
      c.loop-slice.slice 0 (omega (arith, c.loop-slice-test.true, c.loop-slice.invariant.many))
      c.loop-slice.invariant.whole;
}

pub returns : goal.returns
returns c =
    all_changed (λ (left : ℕ). c.args.pace) (map (λ left. c.args.pace) c.args.owed.now.items) c.loop-slice.owed.items
    c.loop-slice.slice (omega (arith, c.loop-slice-test.false, c.loop-slice.invariant.many))
    c.loop-slice.invariant.whole
