use Rattle.std.proofs.Common.{rules}
use Rattle.target_list.proofs.Loads.{takes_loads}
use Rattle.target_list.proofs.list.TargetList.take_loads.Goals as goal

pub returns-clause-loads : goal.returns-clause-loads
returns-clause-loads c = takes_loads _ _ _ (search rules) (search rules)
