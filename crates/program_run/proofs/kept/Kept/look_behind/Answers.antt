use Rattle.std.proofs.Common.{◌≤◌, length, rules, subst}
use Rattle.program_run.specs.Front.{LooksBehind}
use Rattle.program_run.proofs.KeptLemmas.{looks_past}
use Rattle.program_run.proofs.kept.Kept.look_behind.Goals as goal

pub returns-then-slice-len-clause-idle : goal.returns-then-slice-len-clause-idle
returns-then-slice-len-clause-idle c =
    let counts = c.args.self.now.idle.items in
    let past : length counts ≤ c.slice_of-slice.result = search rules in
    subst (λ n. LooksBehind c.args.machine.now.slices.items n c.args.core c.args.line counts counts)
    c.slice_of-slice.ensures.slice
    (looks_past c.args.machine.now.slices.items c.slice_of-slice.result c.args.core c.args.line counts past)
