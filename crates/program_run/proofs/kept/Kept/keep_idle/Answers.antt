use Rattle.std.proofs.Common.{◌<◌, length, rules}
use Rattle.program_run.proofs.KeptLemmas.{idle_set}
use Rattle.program_run.proofs.kept.Kept.keep_idle.Goals as goal

pub returns-clause-idle : goal.returns-clause-idle
returns-clause-idle c = λ slices state found front all.
    let within : c.args.slice < length c.args.self.now.idle.items = search rules in
    idle_set slices c.args.self.now.idle.items c.args.slice c.args.idle state found within front all
