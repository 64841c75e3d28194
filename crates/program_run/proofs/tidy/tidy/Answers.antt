use Rattle.program_run.proofs.tidy.tidy.Goals as goal

pub returns-then-made-clause-kept : goal.returns-then-made-clause-kept
returns-then-made-clause-kept c =
    c.forget_all.ensures c.args.machine.now.config c.tidy_all.new.machine.slices.items
