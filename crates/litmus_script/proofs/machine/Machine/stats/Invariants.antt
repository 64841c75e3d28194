use Rattle.std.proofs.Common.{◌≡◌, length, take, All}
use Rattle.litmus_script.specs.Machine.{IsCountOf, counts_in}
use Rattle.stats_report.specs.Report.{views_of}
use Rattle.litmus_script.proofs.machine.Machine.stats.Given as goal

abbrev pub invariant-loop-slice : goal.invariant-loop-slice
invariant-loop-slice l = record {
  count : length l.stats.items ≡ l.slice;
  each : All (IsCountOf l.fn.self.config) (views_of l.stats.items);
  views : views_of l.stats.items ≡ counts_in (take l.slice l.fn.self.slices.items);
}
