use Rattle.std.proofs.Common.{◌≡◌, ◌++◌, drop, length, map, take}
use Rattle.program_run.proofs.owed.owe_all.Given as goal

-- the list keeps its length; the slices so far owe `pace`, and with the others all do
abbrev pub invariant-loop-slice : goal.invariant-loop-slice
invariant-loop-slice l = record {
  many : length l.owed.items ≡ length l.fn.owed.items;
  whole : map (λ left. l.pace) l.fn.owed.items
      ≡ take l.slice l.owed.items ++ map (λ left. l.pace) (drop l.slice l.owed.items);
}
