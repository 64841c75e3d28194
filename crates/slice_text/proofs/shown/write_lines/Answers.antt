use Rattle.std.proofs.Common.{arith}
use Rattle.litmus_text.proofs.Numbers.{next_number, last_number}
use Rattle.slice_text.specs.Shown.{text_at_line}
use Rattle.slice_text.proofs.shown.write_lines.Goals as goal

pub loop-line-preserved : goal.loop-line-preserved
loop-line-preserved g c = λ new rest.
    c.loop-line.invariant new
    (next_number g.W.Write.write_str_gives (λ line. text_at_line c.args.state.now.view (record { 0 = line }))
    c.args.lines c.loop-line.line c.loop-line-test.true _ _ new
    c.in_ok-write_if_held.ensures rest)

pub returns : goal.returns
returns g c =
    let end = c.loop-line-test.false in
    c.loop-line.invariant _ (last_number g.W.Write.write_str_gives
    (λ line. text_at_line c.args.state.now.view (record { 0 = line })) c.args.lines
    c.loop-line.line (omega (arith, end)) _)
