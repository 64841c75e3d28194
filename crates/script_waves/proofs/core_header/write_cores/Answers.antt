use Rattle.std.proofs.Common.{arith}
use Rattle.litmus_text.proofs.Numbers.{next_number, last_number}
use Rattle.script_waves.specs.Signals.{text_of_core}
use Rattle.script_waves.proofs.core_header.write_cores.Goals as goal

pub loop-core-preserved : goal.loop-core-preserved
loop-core-preserved g c = λ new rest.
    c.loop-core.invariant new
    (next_number g.W.Write.write_str_gives (text_of_core c.args.slice) c.args.cores c.loop-core.core
    c.loop-core-test.true _ _ new
    c.in_ok-write_core.ensures rest)

pub returns : goal.returns
returns g c =
    let end = c.loop-core-test.false in
    c.loop-core.invariant _ (last_number g.W.Write.write_str_gives (text_of_core c.args.slice) c.args.cores
    c.loop-core.core (omega (arith, end)) _)
