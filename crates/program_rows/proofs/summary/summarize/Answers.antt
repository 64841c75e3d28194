use Rattle.std.proofs.Common.{rules, arith}
use Rattle.std.proofs.lemmas.Grind.{common_steps}
use Rattle.program_rows.proofs.SpreadLemmas.{spread_above, sum_above}
use Rattle.program_rows.proofs.summary.summarize.Goals as goal

pub returns : goal.returns
returns c =
    let least = c.least_of-least.result in let xs = c.args.numbers.now in
    let sums = c.in_ok-above.ensures in record {
      count = search rules;
      sum = grind (arith, common_steps, sum_above least xs c.least_of-least.ensures, sums.sum);
      spread = grind (arith, common_steps, spread_above least xs c.least_of-least.ensures, sums.sum, sums.squares);
    }
