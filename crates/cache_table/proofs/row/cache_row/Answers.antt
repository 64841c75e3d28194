use Rattle.cache_table.proofs.RowLaws.{row_of-lawful}
use Rattle.cache_table.proofs.OnlyRow.{IsLawful-only}
use Rattle.cache_table.specs.Row.{row_of}
use Rattle.cache_table.proofs.row.cache_row.Goals as goal

pub returns-clause-lawful : goal.returns-clause-lawful
returns-clause-lawful c = rw c.cell.ensures (row_of-lawful c.args.state c.args.event)

pub returns-clause-only : goal.returns-clause-only
returns-clause-only c =
    let lawful = row_of-lawful c.args.state c.args.event in
    rw c.cell.ensures (λ other. IsLawful-only c.args.state c.args.event (row_of c.args.state c.args.event) other lawful)
