use Rattle.std.proofs.Common.{arith, map}
use Rattle.program_run.specs.Run.{measured_place}
use Rattle.program_run.proofs.UsageLemmas.{all_changed}
use Rattle.program_run.proofs.runner.measure_all.Goals as goal

pub returns : goal.returns
returns c =
    all_changed measured_place (map measured_place c.args.places.now.items) c.loop-number.places.items
    c.loop-number.number (omega (arith, c.loop-number-test.false, c.loop-number.invariant.many))
    c.loop-number.invariant.whole
