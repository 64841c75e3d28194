use Rattle.std.proofs.Common.{ap, subst}
use Rattle.std.specs.Prelude.{OnOk}
use Rattle.std.proofs.lemmas.Result.{on_ok_weaker}
use Rattle.litmus_test.specs.Table.{Counts, TableView}
use Rattle.litmus_test.proofs.Joining.{one_more}
use Rattle.litmus_test.proofs.outcomes.table.Outcomes.add.Goals as goal

pub returns-clause-ok : goal.returns-clause-ok
returns-clause-ok c =
    let rounds_are = ap (λ (table : TableView). table.rounds) c.count.view_is in
    on_ok_weaker c.count-2.result (λ counts rounds is. one_more rounds c.args.values.now _ _ is c.requires counts)
    (subst (λ first. OnOk c.count-2.result
    (Counts (record { values = c.args.values.now; rounds = 1; first = first }) c.args.self.now c.count-2.new.self))
    rounds_are c.count-2.ensures.ok)
