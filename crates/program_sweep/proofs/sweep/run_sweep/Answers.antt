use Rattle.std.proofs.Common.{arith}
use Rattle.program_sweep.proofs.SweepLemmas.{prints_none, prints_on}
use Rattle.program_sweep.proofs.sweep.run_sweep.Goals as goal

pub loop-first-init : goal.loop-first-init
loop-first-init g c = record {
  within = omega arith;
  printed = prints_none c.args.input.now c.args.sweep.now c.args.program.now c.args.form 0 _;
}

pub loop-first-preserved : goal.loop-first-preserved
loop-first-preserved g c = record {
  within = omega arith;
  printed = prints_on c.args.input.now c.args.sweep.now c.args.program.now c.args.form c.loop-first.first _ _ _ _
      c.loop-first.invariant.printed c.in_ok-share.ensures.printed;
}
