use Rattle.std.proofs.Common.{◌≡◌, ◌≤◌, ◌∙◌, ap, length, arith}
use Rattle.std.proofs.lemmas.List.{length-map, take_all}
use Rattle.std.specs.Borrow.{Bor}
use Rattle.slice_answer.specs.Stats.{StatsView}
use Rattle.stats_report.specs.Report.{views_of}
use Rattle.litmus_script.specs.Machine.{counts_in}
use Rattle.litmus_script.proofs.MachineLemmas.{are_alike}
use Rattle.litmus_script.proofs.machine.Machine.stats.Goals as goal

pub returns-clause-alike : goal.returns-clause-alike
returns-clause-alike c =
    let stats = c.loop-slice.stats.items in
    let as_many : length (views_of stats) ≡ c.loop-slice.slice =
    length-map stats (λ (s : Bor StatsView). s.now) ∙ c.loop-slice.invariant.count in
    let some : 1 ≤ length (views_of stats) = omega (
      arith,
      as_many,
      c.slices-slice-end.ensures.allowed.some_slice,
      c.loop-slice-test.false,
      c.slices-slice-end.ensures.slices,
      c.loop-slice.auto.slice-end,
    ) in
    are_alike c.args.self.now.config (views_of stats) some c.loop-slice.invariant.each

pub returns-clause-counts : goal.returns-clause-counts
returns-clause-counts c =
    let slices = c.args.self.now.slices.items in
    let all : length slices ≤ c.loop-slice.slice = omega
    (arith, c.loop-slice-test.false, c.slices-slice-end.ensures.slices, c.args.self.now.shaped.count) in
    c.loop-slice.invariant.views ∙ ap counts_in (take_all c.loop-slice.slice slices all)
