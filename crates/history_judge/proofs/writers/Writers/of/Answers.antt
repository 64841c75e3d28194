use Rattle.std.proofs.Common.{nat_eq}
use Rattle.std.specs.HashMap.{get}
use Rattle.history_judge.proofs.Tables.{up_to_all}
use Rattle.history_judge.proofs.writers.Writers.of.Goals as goal

pub returns : goal.returns
returns c = record {
  says = λ v.
      up_to_all c.args.word.0 c.args.history.now c.loop-place.place v (get nat_eq c.loop-place.map v) c.loop-place-test.false
      (c.loop-place.invariant v);
}
