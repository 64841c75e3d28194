use Rattle.std.proofs.Common.{drop}
use Rattle.program_run.specs.Kept.{Knows}
use Rattle.program_run.specs.Run.{Leads}
use Rattle.program_run.proofs.PerformedLemmas.{HasPerformed}
use Rattle.program_run.proofs.performed.hand_out_all.Given as goal

-- the accesses before this one were performed, and what is kept holds
abbrev pub invariant-loop-entry : goal.invariant-loop-entry
invariant-loop-entry l =
    Leads (HasPerformed l.fn.runner.config l.programs l.slice.0 l.is_first (drop l.entry-index l.entries) l.entries)
    l.fn.runner l.runner
    × Knows l.fn.runner.config l.runner.slices l.kept
