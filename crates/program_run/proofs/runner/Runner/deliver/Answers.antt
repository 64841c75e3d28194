use Rattle.std.proofs.Common.{subst, sym}
use Rattle.program_run.specs.Kept.{Knows}
use Rattle.program_run.specs.Run.{RunnerView}
use Rattle.program_run.proofs.runner.Runner.deliver.Goals as goal

pub deliver-requires : goal.deliver-requires
deliver-requires c =
    subst (λ (runner : RunnerView). Knows runner.config runner.slices c.args.kept.now) (sym c.self.view_is) c.requires
