use Rattle.std.proofs.Common.{◌-◌, ◌^◌, ap, ◌∙◌}
use Rattle.std.specs.Fmt.{styled_text, format_spec}
use Rattle.stats_report.proofs.Appending.{appended-same}
use Rattle.stats_report.proofs.Padding.{name_right}
use Rattle.stats_report.proofs.report.push_name.Goals as goal

pub returns : goal.returns
returns c =
    let name = c.name-name.result.now in
    appended-same _ _ _ _ _
    (ap (λ layout. styled_text layout name) c.laid_out.ensures
    ∙ ap (styled_text (format_spec 32 3 0 10 (2 ^ 64 - 1))) c.name-name.ensures ∙ name_right c.args.column)
    c.write.ensures.bytes
