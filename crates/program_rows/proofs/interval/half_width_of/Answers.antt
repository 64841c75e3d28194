use Rattle.std.proofs.Common.{arith}
use Rattle.std.proofs.lemmas.Grind.{common_steps}
use Rattle.program_rows.proofs.IntervalLemmas.{half_width_is_least_root}
use Rattle.program_rows.proofs.interval.half_width_of.Goals as goal

pub returns : goal.returns
returns c =
    let s = c.args.summary.now in
    half_width_is_least_root s.count s.spread c.args.quantile c.in_ok-factor.factor c.in_ok-divisor.divisor c.in_ok-quotient_up.field-0 c.root_up.result
    (grind (arith, common_steps))
    (grind (arith, common_steps))
    c.in_ok-quotient_up.ensures
    c.root_up.ensures
