use Rattle.std.proofs.lemmas.Result.{IfOk-weaker}
use Rattle.program_sweep.specs.Sweep.{HasRun}
use Rattle.program_sweep.proofs.sweep.make_row.Goals as goal

pub returns : goal.returns
returns c =
    let input = c.args.input.now in
    let sweep = c.args.sweep.now in
    let settings = c.as_slice-settings.ensures.value in
    let says = rw settings at c.in_ok-programs.ensures in
    let bounded = rw settings at c.limits_in-limits.ensures in
    let has = rw (c.limit.ensures, c.seed_in-seed.ensures) at c.run_row.ensures in
    IfOk-weaker c.run_row.result _ (HasRun input sweep c.args.number)
    (λ row is. record {
      read = c.in_ok-programs.programs;
      says = says;
      limits = c.limits_in-limits.result;
      bounded = bounded;
      has = is;
    })
    has
