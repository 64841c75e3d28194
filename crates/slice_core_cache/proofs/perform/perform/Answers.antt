use Rattle.std.proofs.Common.{arith, ◌∙◌}
use Rattle.slice_core_cache.proofs.Performed.{performed-more, next-performable, all-performed-block, all-performed-tags}
use Rattle.slice_core_cache.proofs.Performed.{all-performed-log}
use Rattle.slice_core_cache.proofs.perform.perform.Goals as goal

pub perform_one-requires-clause-performable : goal.perform_one-requires-clause-performable
perform_one-requires-clause-performable g c =
    next-performable _ _ _ _ c.loop-done.invariant.performed.performable c.take_first-target.ensures.taken

pub loop-done-preserved : goal.loop-done-preserved
loop-done-preserved g c = record {
  performed =
      rw (c.perform_one.ensures.block, c.perform_one.ensures.tags, c.perform_one.ensures.log)
      (performed-more _ _ _ _ _ _ _ _ _ _ _ _ _ _ _ c.loop-done.invariant.performed c.loop-done-test.true
      c.take_first-target.ensures.taken);
  sound = λ _. c.take_first-target.ensures.sound;
  bound = c.take_first-target.ensures.bound ∙ c.loop-done.invariant.bound;
  room = c.perform_one.ensures.room ∙ c.loop-done.invariant.room;
}

pub returns-clause-block : goal.returns-clause-block
returns-clause-block g c = all-performed-block _ _ _ _ _ _ _ _ _ _ _ _ _ c.loop-done.invariant.performed (omega arith)

pub returns-clause-tags : goal.returns-clause-tags
returns-clause-tags g c = all-performed-tags _ _ _ _ _ _ _ _ _ _ _ _ _ c.loop-done.invariant.performed (omega arith)

pub returns-clause-log : goal.returns-clause-log
returns-clause-log g c = all-performed-log _ _ _ _ _ _ _ _ _ _ _ _ _ c.loop-done.invariant.performed (omega arith)
