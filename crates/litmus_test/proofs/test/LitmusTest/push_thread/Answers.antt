use Rattle.std.proofs.Common.{is_ok}
use Rattle.litmus_test.proofs.BodyLemmas.{sound_begun}
use Rattle.litmus_test.proofs.test.LitmusTest.push_thread.Goals as goal

pub invariant_of-self : goal.invariant_of-self
invariant_of-self c = record {
  sound = sound_begun c.args.self.now c.args.core c.new.result c.push.new.self.items (is_ok c.push.result) c.requires
      c.new.ensures.items c.push.ensures.items;
}
