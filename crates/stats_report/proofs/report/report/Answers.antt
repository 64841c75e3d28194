use Rattle.std.proofs.Common.{ap, ◌++◌, ◌∙◌, length}
use Rattle.std.specs.String.{string_bytes}
use Rattle.stats_report.specs.Column.{columns_of}
use Rattle.stats_report.specs.Report.{heading_of, message_line}
use Rattle.stats_report.proofs.Whole.{whole_report}
use Rattle.stats_report.proofs.report.report.Goals as goal

pub returns : goal.returns
returns c =
    let columns = c.columns-columns.result.now in
    let lines_text = string_bytes c.push_core_lines.new.text in
    whole_report (λ slice. slice.now) c.args.stats.now c.index-stats-0.result
    (string_bytes c.push_message_line.new.text) (string_bytes c.push_heading.new.text) lines_text
    columns (length c.cores.result.now) c.requires c.index-stats-0.is
    (c.columns-columns.ensures ∙ ap columns_of c.exclusive.ensures)
    (ap length c.cores.ensures)
    (c.in_ok-push_heading.ensures ∙ ap (λ text. text ++ heading_of columns) c.new-text.ensures.bytes)
    c.in_ok-push_core_lines.ensures
    (c.in_ok-push_message_line.ensures ∙ ap (λ messages. lines_text ++ message_line messages) c.total_messages.ensures)
