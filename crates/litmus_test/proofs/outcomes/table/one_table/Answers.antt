use Rattle.litmus_test.proofs.Unique.{one_table_lem}
use Rattle.litmus_test.proofs.outcomes.table.one_table.Goals as goal

pub returns : goal.returns
returns c = one_table_lem
