use Rattle.std.proofs.Common.{◌≡◌, ◌∙◌, true}
use Rattle.mshr_file.specs.Miss.{bound_of}
use Rattle.program_run.proofs.RunLemmas.{programs_run, prints_over, prints_stuck}
use Rattle.program_run.proofs.run.run_read.Goals as goal

pub returns-then-is_over-clause-done : goal.returns-then-is_over-clause-done
returns-then-is_over-clause-done g c =
    let config = c.args.programs.now.config in
    let programs = c.args.programs.now in
    let same = c.in_ok-run.ensures.config ∙ c.in_ok-runner.ensures.config in
    let usages = rw same at c.in_ok-usages.ensures in
    let printed = rw (c.tally.ensures, c.as_slice.ensures.value, usages) at
    c.in_ok-print_report.ensures.printed in
    programs_run (bound_of programs.misses config) programs c.args.form c.args.seed 0 c.in_ok-runner.runner
    c.run.new.runner _ _ c.in_ok-runner.ensures c.in_ok-run.ensures
    (λ history seen.
    prints_over config programs c.args.form c.args.seed c.run.new.runner _ _ history
    (c.is_over.ensures.0 c.if-is_over.true) printed seen)

pub returns-clause-done : goal.returns-clause-done
returns-clause-done g c =
    let config = c.args.programs.now.config in
    let programs = c.args.programs.now in
    programs_run (bound_of programs.misses config) programs c.args.form c.args.seed 1 c.in_ok-runner.runner
    c.run.new.runner _ _ c.in_ok-runner.ensures c.in_ok-run.ensures
    (λ history seen.
    prints_stuck config programs c.args.form c.args.seed c.run.new.runner _ _ history
    (λ over. let is : c.is_over.result ≡ true = c.is_over.ensures.1 over in cc) c.in_ok-print_stuck.ensures.printed)
