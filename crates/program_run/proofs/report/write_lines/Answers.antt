use Rattle.std.proofs.Common.{length, ℕ}
use Rattle.litmus_text.proofs.Numbers.{last_number, next_number}
use Rattle.program_run.specs.Report.{line_row}
use Rattle.program_run.specs.Tally.{counts_at}
use Rattle.program_run.proofs.report.write_lines.Goals as goal

pub loop-line-preserved : goal.loop-line-preserved
loop-line-preserved g c = λ new rest.
    let row = λ (line : ℕ). line_row line (counts_at c.args.lines.now line) in
    c.loop-line.invariant new
    (next_number g.W.Write.write_str_gives row (length c.args.lines.now) c.loop-line.line c.loop-line-test.true _ _ new
    c.in_ok-write_line.ensures rest)

pub returns : goal.returns
returns g c =
    let row = λ (line : ℕ). line_row line (counts_at c.args.lines.now line) in
    c.loop-line.invariant _
    (last_number g.W.Write.write_str_gives row (length c.args.lines.now) c.loop-line.line c.loop-line-test.false _)
