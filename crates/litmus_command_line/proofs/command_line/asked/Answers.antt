use Rattle.std.proofs.Common.{codes}
use Rattle.clap.specs.Words.{found_of, rows_of}
use Rattle.litmus_command_line.proofs.AskedLemmas.{asked_of}
use Rattle.litmus_command_line.proofs.command_line.asked.Goals as goal

pub returns-in-script : goal.returns-in-script
returns-in-script c =
    let named = rw c.in-script.is at c.in_ok-name.ensures.name in
    asked_of c.args.matches.now (codes "script") _ _ named c.in_ok-name.ensures.rows c.script_line.ensures

pub returns-in-coverage : goal.returns-in-coverage
returns-in-coverage c =
    let named = rw c.in-coverage.is at c.in_ok-name.ensures.name in
    asked_of c.args.matches.now (codes "coverage") _ _ named c.in_ok-name.ensures.rows c.coverage_line.ensures

pub returns-in-try : goal.returns-in-try
returns-in-try c =
    let named = rw c.in-try.is at c.in_ok-name.ensures.name in
    asked_of c.args.matches.now (codes "try") _ _ named c.in_ok-name.ensures.rows c.try_line.ensures

pub returns-in-chart : goal.returns-in-chart
returns-in-chart c =
    let named = rw c.in-chart.is at c.in_ok-name.ensures.name in
    asked_of c.args.matches.now (codes "chart") _ _ named c.in_ok-name.ensures.rows c.chart_line.ensures

pub returns-in-page : goal.returns-in-page
returns-in-page c =
    let named = rw c.in-page.is at c.in_ok-name.ensures.name in
    asked_of c.args.matches.now (codes "page") _ _ named c.in_ok-name.ensures.rows c.page_line.ensures

pub returns-in-litmus : goal.returns-in-litmus
returns-in-litmus c =
    let named = rw c.in-litmus.is at c.in_ok-name.ensures.name in
    asked_of c.args.matches.now (codes "litmus") _ _ named c.in_ok-name.ensures.rows c.litmus_line.ensures

pub returns-in-walk : goal.returns-in-walk
returns-in-walk c =
    let named = rw c.in-walk.is at c.in_ok-name.ensures.name in
    asked_of c.args.matches.now (codes "walk") _ _ named c.in_ok-name.ensures.rows c.walk_line.ensures

pub returns-in-merge : goal.returns-in-merge
returns-in-merge c =
    let named = rw c.in-merge.is at c.in_ok-name.ensures.name in
    asked_of c.args.matches.now (codes "merge") _ _ named c.in_ok-name.ensures.rows c.merge_line.ensures

pub returns-in-run : goal.returns-in-run
returns-in-run c =
    let named = rw c.in-run.is at c.in_ok-name.ensures.name in
    asked_of c.args.matches.now (codes "run") _ _ named c.in_ok-name.ensures.rows c.run_line.ensures

pub returns-in-generate : goal.returns-in-generate
returns-in-generate c =
    let named = rw c.in-generate.is at c.in_ok-name.ensures.name in
    asked_of c.args.matches.now (codes "generate") _ _ named c.in_ok-name.ensures.rows c.generate_line.ensures

pub returns-in-test : goal.returns-in-test
returns-in-test c =
    let named = rw c.in-test.is at c.in_ok-name.ensures.name in
    asked_of c.args.matches.now (codes "test") _ _ named c.in_ok-name.ensures.rows c.test_line.ensures

pub returns-in-check : goal.returns-in-check
returns-in-check c =
    let named = rw c.in-check.is at c.in_ok-name.ensures.name in
    asked_of c.args.matches.now (codes "check") _ _ named c.in_ok-name.ensures.rows c.check_line.ensures

pub returns-in-judge : goal.returns-in-judge
returns-in-judge c =
    let named = rw c.in-judge.is at c.in_ok-name.ensures.name in
    asked_of c.args.matches.now (codes "judge") _ _ named c.in_ok-name.ensures.rows c.judge_line.ensures

pub returns-in-table : goal.returns-in-table
returns-in-table c =
    let named = rw c.in-table.is at c.in_ok-name.ensures.name in
    asked_of c.args.matches.now (codes "table") _ _ named c.in_ok-name.ensures.rows c.table_line.ensures

pub returns-in-text : goal.returns-in-text
returns-in-text c =
    let named = rw c.in-text.is at c.in_ok-name.ensures.name in
    asked_of c.args.matches.now (codes "what-if") _ _ named c.in_ok-name.ensures.rows c.what_if_line.ensures

pub returns-in-export : goal.returns-in-export
returns-in-export c =
    let named = rw c.in-export.is at c.in_ok-name.ensures.name in
    asked_of c.args.matches.now (codes "export") _ _ named c.in_ok-name.ensures.rows c.export_line.ensures
