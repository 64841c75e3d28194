use Rattle.std.proofs.Common.{map, rules}
use Rattle.litmus_test.specs.Line.{BeginsAsSetting}
use Rattle.litmus_test.proofs.ReadingLemmas.{no_late_setting}
use Rattle.std.proofs.Common.{refl}
use Rattle.litmus_test.proofs.test.LitmusTest.read_next.Goals as goal

pub returns-then-begins_as_setting-clause-refused : goal.returns-then-begins_as_setting-clause-refused
returns-then-begins_as_setting-clause-refused c =
    let begins : BeginsAsSetting (map (λ w. w.now) c.args.statement.now.words.items) = search rules in
    rw c.at.ensures (no_late_setting c.args.version _ _ begins c.requires)

pub returns-then-begins_as_setting-clause-fault : goal.returns-then-begins_as_setting-clause-fault
returns-then-begins_as_setting-clause-fault c =
    rw c.at.ensures (refl, rw c.as_slice-words.ensures.value at (c.late_fault.ensures c.args.version))
