use Rattle.std.proofs.lemmas.Result.{IfErr-weaker}
use Rattle.litmus_test.proofs.ReadingLemmas.{IsNoMemoryOr-weaker, no_next_setting, on_ok_two, reading_setting}
use Rattle.litmus_test.proofs.FaultLemmas.{no_setting_line, placed_setting}
use Rattle.litmus_test.proofs.preamble.Preamble.read_setting.Goals as goal

pub returns-in-Ok-clause-reading : goal.returns-in-Ok-clause-reading
returns-in-Ok-clause-reading c =
    on_ok_two c.take.result _ _ _
    (λ may said version start all left. reading_setting version start _ _ all left _ c.in-Ok.setting c.requires
    (rw c.as_slice.ensures.value at c.in-Ok.ensures.written) (rw c.as_slice.ensures.value at c.in-Ok.ensures.only) may
    said)
    c.take.ensures.may c.take.ensures.said

pub returns-in-Ok-clause-refused : goal.returns-in-Ok-clause-refused
returns-in-Ok-clause-refused c = λ version.
    IfErr-weaker c.take.result _ _
    (λ fault. IsNoMemoryOr-weaker _ _ fault
    (no_next_setting version _ _ c.in-Ok.setting c.requires (rw c.as_slice.ensures.value at c.in-Ok.ensures.only)))
    c.take.ensures.refused

pub returns-in-Ok-clause-fault : goal.returns-in-Ok-clause-fault
returns-in-Ok-clause-fault c = λ version.
    IfErr-weaker c.take.result _ _
    (λ fault. placed_setting version _ _ _ c.in-Ok.setting fault
    (rw c.as_slice.ensures.value at c.in-Ok.ensures.written))
    c.take.ensures.fault

pub returns-in-Err-clause-fault : goal.returns-in-Err-clause-fault
returns-in-Err-clause-fault c = λ version.
    rw c.at.ensures
    (no_setting_line version c.args.self.now c.args.statement.now.number _ c.in-Err.fault c.requires
    (rw c.as_slice.ensures.value at c.in-Err.ensures.refused)
    (rw c.as_slice.ensures.value at c.in-Err.ensures.fault))
