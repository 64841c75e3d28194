use Rattle.std.proofs.Common.{subst, List}
use Rattle.std.specs.Prelude.{OnOk}
use Rattle.std.specs.Fmt.{WritesInCalls}
use Rattle.std.specs.List.{flat_map}
use Rattle.std.proofs.Output.{writes_in_calls_append}
use Rattle.std.proofs.lemmas.Result.{on_ok_weaker}
use Rattle.litmus_test.specs.Table.{RowView}
use Rattle.litmus_test.specs.OutcomesText.{last_line, line_of}
use Rattle.litmus_test.proofs.outcomes.text.write_table.Goals as goal

pub returns : goal.returns
returns g c = λ rounds is.
    let took = g.W.Write.write_str_gives in
    let lines = subst (λ (rows : List RowView). WritesInCalls took c.args.out.now
    (flat_map (line_of c.args.test.now c.args.seed) rows) c.write_rows.new.out)
    c.rows.ensures.rows c.in_ok-write_rows.ensures in
    let last = subst (λ count. OnOk c.writeln.result
    (WritesInCalls took c.write_rows.new.out (last_line count) c.writeln.new.self))
    (c.forbidden-forbidden.ensures rounds is) c.writeln.ensures.writes in
    on_ok_weaker c.writeln.result (λ wrote. writes_in_calls_append took _ _ _ _ _ lines wrote) last
