use Rattle.std.proofs.Common.{subst}
use Rattle.std.specs.Prelude.{◌↔◌, All, IsTrue}
use Rattle.slice_core_spec.specs.View.{IsQuiet}
use Rattle.program_run.specs.Run.{HaveEnded, RunnerView}
use Rattle.program_run.proofs.runner.Runner.is_over.Goals as goal

pub returns-then-have_ended : goal.returns-then-have_ended
returns-then-have_ended c =
    let programs = c.args.programs.now.cores.items in
    let found = c.have_ended.ensures.0 c.if-have_ended.true in
    let ended : HaveEnded programs c.self.inside.places.items =
    rw (c.as_slice.ensures.value, c.as_slice-2.ensures.value) at found in
    subst
    (λ (runner : RunnerView). IsTrue c.is_quiet.result
    ↔ (HaveEnded programs runner.places × All (λ state. IsQuiet state.view) runner.slices))
    c.self.view_is
    (λ quiet. (ended, c.is_quiet.ensures.0 quiet), λ both. c.is_quiet.ensures.1 both.1)
