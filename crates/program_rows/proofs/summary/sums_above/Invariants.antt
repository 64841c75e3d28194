use Rattle.std.proofs.Common.{◌≡◌, ◌-◌, take, sum_by}
use Rattle.program_rows.specs.Figures.{square}
use Rattle.program_rows.proofs.summary.sums_above.Given as goal

abbrev pub invariant-loop-number : goal.invariant-loop-number
invariant-loop-number l = record {
  sum : l.sum ≡ sum_by (λ n. n - l.least) (take l.number-index l.numbers);
  squares : l.squares ≡ sum_by (λ n. square (n - l.least)) (take l.number-index l.numbers);
}
