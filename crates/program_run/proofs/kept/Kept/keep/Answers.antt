use Rattle.std.proofs.Common.{◌<◌, length, rules}
use Rattle.program_run.proofs.KeptLemmas.{keeps}
use Rattle.program_run.proofs.kept.Kept.keep.Goals as goal

pub returns : goal.returns
returns c = λ config slices all holds.
    let within : c.args.core.0 < length c.args.self.now.decided.items = search rules in record {
      decided = keeps config slices c.args.self.now.decided.items c.args.core c.args.decided within all.decided holds;
      idle = all.idle;
    }
