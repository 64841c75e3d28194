use Rattle.std.proofs.Common.{sym}
use Rattle.mshr_file.proofs.Rows.{none_serves}
use Rattle.mshr_file.proofs.registers.RegisterTable.search.Goals as goal

pub returns-then-self-eq0 : goal.returns-then-self-eq0
returns-then-self-eq0 c = sym (none_serves c.args.self.now c.args.line.0 c.requires c.if-self-eq0.true)
