use Rattle.std.proofs.Common.{refl}
use Rattle.mshr_file.proofs.Rows.{free_kept}
use Rattle.mshr_file.proofs.registers.RegisterTable.make.Goals as goal

pub returns-clause-kept : goal.returns-clause-kept
returns-clause-kept c = free_kept c.args.count _ c.in_ok-rows.ensures c.in_ok-registers.ensures refl
