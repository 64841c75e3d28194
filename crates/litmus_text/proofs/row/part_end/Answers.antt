use Rattle.std.proofs.Common.{◌<◌, ◌/◌, ◌^◌, arith}
use Rattle.litmus_text.proofs.BlankLemmas.{ends_at_blank, ends_with_line, lowest_set, zeros_below}
use Rattle.litmus_text.proofs.row.part_end.Goals as goal

pub returns-then-end-line-clause-part : goal.returns-then-end-line-clause-part
returns-then-end-line-clause-part c =
    let fits : c.args.blanks / 2 ^ c.args.at < 2 ^ 64 = omega (arith, c.ranges.blanks.fits) in
    ends_at_blank c.args.line.now c.args.blanks c.args.at _ c.requires.blanks c.requires.at
    (λ k below. zeros_below _ k fits below) (omega arith) (lowest_set _ fits (omega arith))

pub returns-else-end-line-clause-part : goal.returns-else-end-line-clause-part
returns-else-end-line-clause-part c =
    let fits : c.args.blanks / 2 ^ c.args.at < 2 ^ 64 = omega (arith, c.ranges.blanks.fits) in
    ends_with_line c.args.line.now c.args.blanks c.args.at _ c.requires.blanks c.requires.at
    (λ k below. zeros_below _ k fits below) (omega arith)
