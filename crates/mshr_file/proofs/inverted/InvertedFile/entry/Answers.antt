use Rattle.mshr_file.specs.Waiting.{waiting_in}
use Rattle.mshr_file.proofs.Entries.{each_once}
use Rattle.mshr_file.proofs.inverted.InvertedFile.entry.Goals as goal

pub returns-clause-once : goal.returns-clause-once
returns-clause-once c =
    each_once (waiting_in c.self.inside.table) c.args.self.now c.self.view_is c.self.invariant.0.by_tag
