use Rattle.std.proofs.Common.{ap, sym, ◌∙◌, ◌+◌, ◌-◌, ◌^◌, min}
use Rattle.stats_report.specs.Report.{HasCore, shown_of}
use Rattle.stats_report.proofs.Totals.{total_more, All-at}
use Rattle.stats_report.proofs.total.total.Goals as goal

pub shown-requires : goal.shown-requires
shown-requires c =
    All-at (HasCore c.args.core) (λ slice. slice.now) c.args.stats.now c.loop-slice.slice-index c.slice-item.result
    c.loop-slice-test.true c.slice-item.is c.requires

pub loop-slice-preserved : goal.loop-slice-preserved
loop-slice-preserved c =
    let slice = c.slice-item.result in
    let count = shown_of c.args.core c.args.column in
    let more = total_more (λ s. s.now) count c.args.stats.now c.loop-slice.slice-index slice c.loop-slice-test.true
    c.slice-item.is in
    c.saturating_add-total.ensures ∙ ap (λ n. min (c.loop-slice.total + n) (2 ^ 64 - 1)) c.shown.ensures
    ∙ ap (λ n. min (n + count slice.now) (2 ^ 64 - 1)) c.loop-slice.invariant ∙ sym more
