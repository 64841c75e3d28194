use Rattle.std.proofs.Common.{subst, sym}
use Rattle.program_run.specs.Kept.{Knows}
use Rattle.program_run.specs.Run.{RunnerView}
use Rattle.program_run.proofs.runner.Runner.hand_out.Goals as goal

pub hand-requires-clause-kept : goal.hand-requires-clause-kept
hand-requires-clause-kept c =
    subst (λ (runner : RunnerView). Knows runner.config runner.slices c.args.kept.now) (sym c.self.view_is)
    c.requires.kept
