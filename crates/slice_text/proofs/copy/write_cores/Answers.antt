use Rattle.litmus_text.proofs.Numbers.{next_number, last_number}
use Rattle.std.proofs.Common.{arith, length}
use Rattle.slice_text.specs.Shown.{text_of_core}
use Rattle.slice_text.proofs.copy.write_cores.Goals as goal

pub loop-core-preserved : goal.loop-core-preserved
loop-core-preserved g c = λ new rest.
    let below = c.loop-core-test.true in
    let count = c.requires.cores in
    c.loop-core.invariant new
    (next_number g.W.Write.write_str_gives (λ core. text_of_core c.args.state.now.view
    c.args.line (record { 0 = core }))
    (length c.args.state.now.view.caches) c.loop-core.core (omega (arith, below, count)) _ _ new
    c.in_ok-write_core.ensures rest)

pub returns : goal.returns
returns g c =
    let end = c.loop-core-test.false in
    let count = c.requires.cores in
    c.loop-core.invariant _
    (last_number g.W.Write.write_str_gives (λ core. text_of_core c.args.state.now.view
    c.args.line (record { 0 = core }))
    (length c.args.state.now.view.caches) c.loop-core.core (omega (arith, end, count)) _)
