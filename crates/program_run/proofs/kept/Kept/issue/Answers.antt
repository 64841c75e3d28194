use Rattle.address_map.specs.Place.{line_of}
use Rattle.std.specs.Prelude.{◌%◌}
use Rattle.program_run.proofs.KeptLemmas.{issue_idle, issue_leaves}
use Rattle.program_run.proofs.kept.Kept.issue.Goals as goal

pub returns-in-Ok-clause-kept : goal.returns-in-Ok-clause-kept
returns-in-Ok-clause-kept c =
    let config = c.args.machine.now.config in
    let slice = (line_of c.args.request.word).0 % config.slices in
    let old = c.args.machine.now.slices.items in
    let new = c.issue.new.self.slices.items in
    let others = issue_leaves config slice c.args.core c.args.request c.in-Ok.issued old new c.in-Ok.ensures.issued in
    let looks = rw (c.in-Ok.ensures.config, c.line.ensures, c.forget.ensures.idle) at c.look_again.ensures.idle in record {
      decided = rw c.look_again.ensures.decided (c.forget.ensures.decided config old new c.requires.kept.decided others);
      idle = issue_idle config slice c.args.core c.args.request c.in-Ok.issued old new c.args.self.now.idle.items _
          c.args.machine.now.shaped c.requires.core c.in-Ok.ensures.issued c.requires.kept.idle looks;
    }
