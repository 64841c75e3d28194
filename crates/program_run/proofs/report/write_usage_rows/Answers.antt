use Rattle.std.proofs.Common.{length, ℕ}
use Rattle.litmus_text.proofs.Numbers.{last_number, next_number}
use Rattle.program_run.specs.Report.{usage_row}
use Rattle.program_run.specs.Usage.{usage_at}
use Rattle.program_run.proofs.report.write_usage_rows.Goals as goal

pub loop-core-preserved : goal.loop-core-preserved
loop-core-preserved g c = λ new rest.
    let row = λ (core : ℕ). usage_row core (usage_at c.args.usages.now core) in
    c.loop-core.invariant new
    (next_number g.W.Write.write_str_gives row (length c.args.usages.now) c.loop-core.core c.loop-core-test.true _ _
    new c.in_ok-write_usage.ensures rest)

pub returns : goal.returns
returns g c =
    let row = λ (core : ℕ). usage_row core (usage_at c.args.usages.now core) in
    c.loop-core.invariant _
    (last_number g.W.Write.write_str_gives row (length c.args.usages.now) c.loop-core.core c.loop-core-test.false _)
