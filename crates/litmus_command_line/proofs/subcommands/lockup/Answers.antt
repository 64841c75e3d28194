use Rattle.std.proofs.Common.{refl}
use Rattle.std.specs.Prelude.{Ok}
use Rattle.litmus_command_line.proofs.BuiltLemmas.{with_export, with_known, with_table}
use Rattle.litmus_command_line.proofs.subcommands.lockup.Goals as goal

pub returns : goal.returns
returns c =
    let script = with_known (Ok c.top.result) c.script.result c.with-program.result _ _ c.top.ensures c.script.ensures
    c.with-program.ensures in
    let coverage = with_known c.with-program.result c.coverage.result c.with-program-2.result _ _ script c.coverage.ensures
    c.with-program-2.ensures in
    let prompt = with_known c.with-program-2.result c.prompt.result c.with-program-3.result _ _ coverage c.prompt.ensures
    c.with-program-3.ensures in
    let chart = with_known c.with-program-3.result c.chart.result c.with-program-4.result _ _ prompt c.chart.ensures
    c.with-program-4.ensures in
    let page = with_known c.with-program-4.result c.page.result c.with-program-5.result _ _ chart c.page.ensures
    c.with-program-5.ensures in
    let litmus = with_known c.with-program-5.result c.litmus.result c.with-program-6.result _ _ page c.litmus.ensures
    c.with-program-6.ensures in
    let walk = with_known c.with-program-6.result c.walk.result c.with-program-7.result _ _ litmus c.walk.ensures
    c.with-program-7.ensures in
    let merge = with_known c.with-program-7.result c.merge.result c.with-program-8.result _ _ walk c.merge.ensures
    c.with-program-8.ensures in
    let run = with_known c.with-program-8.result c.run.result c.with-program-9.result _ _ merge c.run.ensures
    c.with-program-9.ensures in
    let generate = with_known c.with-program-9.result c.generate.result c.with-program-10.result _ _ run c.generate.ensures
    c.with-program-10.ensures in
    let test = with_known c.with-program-10.result c.test.result c.with-program-11.result _ _ generate c.test.ensures
    c.with-program-11.ensures in
    let check = with_known c.with-program-11.result c.check.result c.with-program-12.result _ _ test c.check.ensures
    c.with-program-12.ensures in
    let judge = with_known c.with-program-12.result c.judge.result c.with-program-13.result _ _ check c.judge.ensures
    c.with-program-13.ensures in
    let what_if = with_known c.with-program-13.result c.what_if.result c.with-program-14.result _ _ judge c.what_if.ensures
    c.with-program-14.ensures in
    let table = with_table c.with-program-14.result c.table.result c.with-program-15.result _ (λ names. refl) what_if
    c.table.ensures c.with-program-15.ensures in
    with_export c.with-program-15.result c.export.result c.with.result table c.export.ensures c.with.ensures
