use Rattle.std.proofs.Common.{arith}
use Rattle.script_waves.specs.InUse.{text_of_core_use}
use Rattle.script_waves.proofs.InUseLemmas.{no_number_written, number_written}
use Rattle.script_waves.proofs.in_use.write_slice.Goals as goal

pub loop-core-preserved : goal.loop-core-preserved
loop-core-preserved g c = λ after rest.
    c.loop-core.invariant after
    (number_written (text_of_core_use c.args.slice c.args.state.now.view) c.args.cores c.loop-core.core _ _ after
    c.loop-core-test.true c.in_ok-write_core.ensures.written rest)

pub returns-clause-written : goal.returns-clause-written
returns-clause-written g c =
    let end = c.loop-core-test.false in
    c.loop-core.invariant _
    (no_number_written (text_of_core_use c.args.slice c.args.state.now.view) c.args.cores c.loop-core.core _
    (omega (arith, end)))
