use Rattle.core_thread_system.proofs.Dealt.{AreLeft}
use Rattle.core_thread_system.specs.Core.{AreFreshSets}
use Rattle.core_thread_system.proofs.port_set.deal.Given as goal

abbrev pub invariant-loop-core : goal.invariant-loop-core
invariant-loop-core g l = record {
  left0 : AreLeft (record { 0 = 0 }) l.core l.cores l.ports0.items;
  left1 : AreLeft (record { 0 = 1 }) l.core l.cores l.ports1.items;
  left2 : AreLeft (record { 0 = 2 }) l.core l.cores l.ports2.items;
  left3 : AreLeft (record { 0 = 3 }) l.core l.cores l.ports3.items;
  dealt : AreFreshSets l.core l.sets.items;
}
