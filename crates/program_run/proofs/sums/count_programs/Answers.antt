use Rattle.std.proofs.Common.{◌≡◌, ◌∙◌, true}
use Rattle.mshr_file.specs.Miss.{bound_of}
use Rattle.program_run.proofs.SumLemmas.{no_sums, run_counted, sums_over}
use Rattle.program_run.proofs.sums.count_programs.Goals as goal

pub returns-then-is_over : goal.returns-then-is_over
returns-then-is_over c =
    let config = c.args.programs.now.config in
    let programs = c.args.programs.now in
    let same = c.in_ok-run.ensures.config ∙ c.in_ok-runner.ensures.config in
    let usages = rw same at c.in_ok-usages.ensures in
    let counts = rw c.tally.ensures at c.all-counts.ensures in
    let usage = rw (c.as_slice.ensures.value, usages) at c.usage_of_all-usage.ensures in
    run_counted (bound_of programs.misses config) programs c.args.seed _ c.in_ok-runner.runner c.run.new.runner
    c.in_ok-runner.ensures c.in_ok-run.ensures
    (λ history seen.
    sums_over config programs c.run.new.runner history _ _ (c.is_over.ensures.0 c.if-is_over.true) counts usage seen)

pub returns : goal.returns
returns c =
    let config = c.args.programs.now.config in
    let programs = c.args.programs.now in
    run_counted (bound_of programs.misses config) programs c.args.seed _ c.in_ok-runner.runner c.run.new.runner
    c.in_ok-runner.ensures c.in_ok-run.ensures
    (λ history seen.
    no_sums config programs c.run.new.runner history
    (λ over. let is : c.is_over.result ≡ true = c.is_over.ensures.1 over in cc))
