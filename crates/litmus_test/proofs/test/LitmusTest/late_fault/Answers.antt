use Rattle.std.proofs.Common.{◌≡◌, ◌≢◌, [], rules}
use Rattle.litmus_test.specs.Text.{said_by}
use Rattle.litmus_test.proofs.FaultLemmas.{astray_setting, late_setting, no_setting}
use Rattle.litmus_test.proofs.test.LitmusTest.late_fault.Goals as goal

pub returns-in-Ok : goal.returns-in-Ok
returns-in-Ok c = λ version.
    let none : (said_by c.args.self.now).threads ≡ [] = search rules in
    astray_setting version (said_by c.args.self.now) _ c.in-Ok.field-0 c.in-Ok.ensures.written none c.requires.begun

pub returns-in-Ok-2 : goal.returns-in-Ok-2
returns-in-Ok-2 c = λ version.
    let begun : (said_by c.args.self.now).threads ≢ [] = search rules in
    late_setting version (said_by c.args.self.now) _ c.in-Ok-2.field-0 c.in-Ok-2.ensures.written begun

pub returns-in-Err : goal.returns-in-Err
returns-in-Err c = λ version.
    no_setting version (said_by c.args.self.now) _ _ c.in-Err.fault c.requires.begins c.in-Err.ensures.refused
    c.in-Err.ensures.fault c.fault_of.ensures.astray c.fault_of.ensures.placed
