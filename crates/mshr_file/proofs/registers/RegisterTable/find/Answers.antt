use Rattle.std.proofs.Common.{ap, is_some, ◌∙◌}
use Rattle.mshr_file.specs.Register.{row_serves}
use Rattle.mshr_file.proofs.Lists.{found-any}
use Rattle.mshr_file.proofs.Rows.{row_for}
use Rattle.mshr_file.proofs.Steps.{sound}
use Rattle.mshr_file.proofs.registers.RegisterTable.find.Goals as goal

pub returns-clause-served : goal.returns-clause-served
returns-clause-served c =
    c.is_some.ensures ∙ ap is_some c.search.ensures
    ∙ found-any (row_serves c.args.line.0) c.args.self.now.rows.items.items
    ∙ row_for c.args.self.now c.args.line.0 c.requires

pub returns-clause-sound : goal.returns-clause-sound
returns-clause-sound c = sound c.args.self.now.registers.items.items c.requires.single
