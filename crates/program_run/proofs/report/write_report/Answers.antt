use Rattle.std.proofs.lemmas.Result.{on_ok_weaker}
use Rattle.std.proofs.Output.{writes_in_calls_append}
use Rattle.program_run.proofs.report.write_report.Goals as goal

pub returns : goal.returns
returns g c =
    let then = writes_in_calls_append g.W.Write.write_str_gives in
    let limited = c.is_limited-is_limited.ensures in
    let cores_heading = rw c.core_columns.ensures at c.in_ok-write_heading.ensures in
    let cores = rw (c.core_columns-2.ensures, c.cores.ensures) at c.in_ok-write_cores.ensures in
    let lines_heading = rw c.line_columns.ensures at c.in_ok-write_heading-2.ensures in
    let lines = rw c.lines.ensures at c.in_ok-write_lines.ensures in
    let all = rw (c.line_columns-2.ensures, c.all-all.ensures) at c.in_ok-write_counts.ensures in
    let parallel = rw (limited, c.cores-2.ensures) at c.in_ok-write_parallel.ensures in
    let usages = rw limited at c.in_ok-write_usages.ensures in
    on_ok_weaker c.write_pace.result
    (λ last. then _ _ _ _ _
    (then _ _ _ _ _
    (then _ _ _ _ _
    (then _ _ _ _ _
    (then _ _ _ _ _
    (then _ _ _ _ _
    (then _ _ _ _ _
    (then _ _ _ _ _
    (then _ _ _ _ _ (then _ _ _ _ _ c.in_ok-writeln.ensures.writes cores_heading) cores)
    lines_heading) lines) c.in_ok-write.ensures.writes) all) c.in_ok-writeln-2.ensures.writes) parallel) usages) last)
    (rw (c.is_paced.ensures, c.usage_of_all.ensures, c.all-all.ensures) at c.write_pace.ensures)
