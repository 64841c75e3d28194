use Rattle.slice_core_spec.specs.Initial.{AreInitialEntries}
use Rattle.slice_core_exec.proofs.parts.build.new_entries.Given as goal

abbrev pub invariant-loop-local : goal.invariant-loop-local
invariant-loop-local l = AreInitialEntries l.config l.lines l.local l.all.items
