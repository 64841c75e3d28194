use Rattle.program_run.proofs.KeptLemmas.{hand_idle, hand_leaves}
use Rattle.program_run.proofs.kept.Kept.hand.Goals as goal

pub returns-clause-kept : goal.returns-clause-kept
returns-clause-kept c =
    let config = c.args.machine.now.config in
    let old = c.args.machine.now.slices.items in
    let new = c.hand.new.self.slices.items in
    let others = hand_leaves config _ c.args.core c.hand.result old new c.hand.ensures.answered in
    record {
      decided = c.forget.ensures.decided config old new c.requires.kept.decided others;
      idle = rw c.forget.ensures.idle
          (hand_idle _ c.args.core c.hand.result old new c.args.self.now.idle.items c.hand.ensures.answered
          c.requires.kept.idle);
    }
