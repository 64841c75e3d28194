use Rattle.std.proofs.Common.{◌≡◌, ◌-◌, ◌<◌, drop, length, map}
use Rattle.program_sweep.specs.Read.{values_of}
use Rattle.program_sweep.proofs.ReadLemmas.{AreLaidOut}
use Rattle.program_sweep.proofs.sweep.lay_out.Given as goal

-- the settings so far, from the last on, are laid out, and none is lost or changed otherwise
abbrev pub invariant-loop-behind : goal.invariant-loop-behind
invariant-loop-behind l = record {
  some : 0 < l.rows;
  long : length l.settings.items ≡ l.count;
  kept : map values_of l.settings.items ≡ map values_of l.fn.settings.items;
  laid : AreLaidOut (drop (l.count - l.behind) l.settings.items) l.seeds l.rows;
}
