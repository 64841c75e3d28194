use Rattle.std.proofs.Common.{◌∙◌, sym, ap}
use Rattle.std.specs.List.{position}
use Rattle.mshr_file.specs.Register.{row_serves}
use Rattle.mshr_file.proofs.Rows.{IsServedAt, row_found, served_at}
use Rattle.mshr_file.proofs.registers.RegisterTable.place_of.Goals as goal

pub unwrap-requires : goal.unwrap-requires
unwrap-requires c =
    rw (c.first_serving.ensures, c.deref.ensures.value)
    (row_found c.args.self.now c.args.line.0 c.requires.kept c.requires.served)

at : (c : goal.After-unwrap) → IsServedAt c.args.self.now c.args.line.0 c.unwrap.result
at c = served_at c.args.self.now c.args.line.0 c.unwrap.result c.requires.kept
    (ap (position (row_serves c.args.line.0)) (sym c.deref.ensures.value) ∙ sym c.first_serving.ensures
    ∙ c.unwrap.ensures)

pub returns-clause-row : goal.returns-clause-row
returns-clause-row c = (at c).row

pub returns-clause-inside : goal.returns-clause-inside
returns-clause-inside c = (at c).inside

pub returns-clause-serves : goal.returns-clause-serves
returns-clause-serves c = (at c).serving
