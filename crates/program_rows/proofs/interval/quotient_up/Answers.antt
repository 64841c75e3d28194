use Rattle.std.proofs.Common.{arith}
use Rattle.std.proofs.lemmas.Grind.{common_steps}
use Rattle.program_rows.proofs.IntervalLemmas.{rounded_up_in_two}
use Rattle.program_rows.proofs.interval.quotient_up.Goals as goal

pub returns : goal.returns
returns c =
    grind (arith, common_steps, rounded_up_in_two c.args.factor c.args.number c.args.divisor c.requires)
