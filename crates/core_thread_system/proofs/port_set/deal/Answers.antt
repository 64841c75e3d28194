use Rattle.address_map.specs.declared.address.CoreId.{CoreId}
use Rattle.core_thread_system.proofs.Dealt.{all-left, first-left, rest-left, set-fresh, no-sets, sets-more}
use Rattle.core_thread_system.proofs.port_set.deal.Goals as goal

pub loop-core-init : goal.loop-core-init
loop-core-init g c = record {
  left0 = all-left _ _ _ c.requires.ports0;
  left1 = all-left _ _ _ c.requires.ports1;
  left2 = all-left _ _ _ c.requires.ports2;
  left3 = all-left _ _ _ c.requires.ports3;
  dealt = rw c.new-sets.ensures.items no-sets;
}

pub loop-core-preserved : goal.loop-core-preserved
loop-core-preserved g c =
    let owner : CoreId = record { 0 = c.loop-core.core } in
    let so_far = c.loop-core.invariant in
    let inside = c.loop-core-test.true in
    record {
      left0 = rw c.remove.ensures.items (rest-left _ _ _ _ so_far.left0 inside);
      left1 = rw c.remove-in-loop-core.ensures.items (rest-left _ _ _ _ so_far.left1 inside);
      left2 = rw c.remove-in-loop-core-2.ensures.items (rest-left _ _ _ _ so_far.left2 inside);
      left3 = rw c.remove-in-loop-core-3.ensures.items (rest-left _ _ _ _ so_far.left3 inside);
      dealt =
          rw c.in_ok-push.ensures.items
          (sets-more _ owner _ so_far.dealt
          (set-fresh owner _ _ _ _
          (first-left _ _ _ owner _ so_far.left0 inside c.remove.ensures.value)
          (first-left _ _ _ owner _ so_far.left1 inside c.remove-in-loop-core.ensures.value)
          (first-left _ _ _ owner _ so_far.left2 inside c.remove-in-loop-core-2.ensures.value)
          (first-left _ _ _ owner _ so_far.left3 inside c.remove-in-loop-core-3.ensures.value)));
    }
