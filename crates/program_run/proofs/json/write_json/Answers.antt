use Rattle.std.proofs.lemmas.Result.{on_ok_weaker}
use Rattle.std.proofs.Output.{writes_in_calls_append}
use Rattle.program_run.proofs.json.write_json.Goals as goal

pub returns : goal.returns
returns g c =
    let then = writes_in_calls_append g.W.Write.write_str_gives in
    let limited = c.is_limited-is_limited.ensures in
    let cores = rw (limited, c.cores.ensures) at c.in_ok-write_cores.ensures in
    let lines = rw c.lines.ensures at c.in_ok-write_lines.ensures in
    let all = rw (c.columns_of_all.ensures, limited, c.all-all.ensures) at c.in_ok-write_members.ensures in
    let usages = rw (limited, c.usage_of_all-usage.ensures) at c.in_ok-write_usage.ensures in
    let pace = rw (limited, c.is_paced.ensures, c.usage_of_all-usage.ensures, c.all-all.ensures) at
    c.in_ok-write_pace.ensures in
    on_ok_weaker c.writeln.result
    (λ last. then _ _ _ _ _
    (then _ _ _ _ _
    (then _ _ _ _ _
    (then _ _ _ _ _
    (then _ _ _ _ _
    (then _ _ _ _ _
    (then _ _ _ _ _ (then _ _ _ _ _ c.in_ok-write.ensures.writes cores) c.in_ok-write-2.ensures.writes)
    lines) c.in_ok-write-3.ensures.writes) all) usages) pace) last)
    c.writeln.ensures.writes
