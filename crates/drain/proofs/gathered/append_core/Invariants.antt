use Rattle.std.proofs.Common.{◌≡◌, ◌++◌}
use Rattle.std.specs.List.{flat_map, range_with_len}
use Rattle.core_thread_system.specs.Core.{receipts_of}
use Rattle.drain.specs.Owned.{HasItsOwn}
use Rattle.drain.proofs.gathered.append_core.Given as goal

abbrev pub invariant-loop-slice : goal.invariant-loop-slice
invariant-loop-slice g l = record {
  receipts : l.receipts.items ≡ l.initial.receipts.items ++ flat_map (receipts_of l.core) (range_with_len 0 l.slice);
  own : HasItsOwn g.M.SystemNames.setup l.slice l.core;
}
