use Rattle.std.proofs.Common.{◌≡◌, refl, true}
use Rattle.mshr_file.specs.Miss.{bound_of}
use Rattle.program_run.proofs.RunLemmas.{prints_schedule}
use Rattle.program_run.proofs.script.write_read.Goals as goal

pub returns-then-is_over-clause-done : goal.returns-then-is_over-clause-done
returns-then-is_over-clause-done g c =
    let programs = c.args.programs.now in
    prints_schedule (bound_of programs.misses programs.config) programs c.args.seed 0 c.in_ok-runner.runner
    c.run.new.runner _ _ c.in_ok-runner.ensures c.in_ok-run.ensures
    (λ over. refl) (λ unless. absurd (unless (c.is_over.ensures.0 c.if-is_over.true)))
    (rw c.calls.ensures at c.in_ok-print_script.ensures.printed)

pub returns-clause-done : goal.returns-clause-done
returns-clause-done g c =
    let programs = c.args.programs.now in
    prints_schedule (bound_of programs.misses programs.config) programs c.args.seed 1 c.in_ok-runner.runner
    c.run.new.runner _ _ c.in_ok-runner.ensures c.in_ok-run.ensures
    (λ over. let is : c.is_over.result ≡ true = c.is_over.ensures.1 over in cc) (λ unless. refl)
    (rw c.calls.ensures at c.in_ok-print_script.ensures.printed)
