use Rattle.std.proofs.Common.{ap, ◌∙◌}
use Rattle.std.specs.Fmt.{styled_decimal}
use Rattle.stats_report.proofs.Appending.{appended-same}
use Rattle.stats_report.proofs.Padding.{number_right}
use Rattle.stats_report.proofs.report.push_number.Goals as goal

pub returns : goal.returns
returns c =
    appended-same _ _ _ _ _
    (ap (λ layout. styled_decimal layout c.args.number) c.laid_out.ensures ∙ number_right c.args.number)
    c.write.ensures.bytes
