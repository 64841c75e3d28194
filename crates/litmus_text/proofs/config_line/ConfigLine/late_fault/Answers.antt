use Rattle.std.proofs.Common.{inl, inr, refl}
use Rattle.litmus_text.proofs.config_line.ConfigLine.late_fault.Goals as goal

pub returns-in-Ok : goal.returns-in-Ok
returns-in-Ok c = inr (_, (c.in-Ok.ensures.written, refl))

pub returns-in-Err : goal.returns-in-Err
returns-in-Err c = inl c.in-Err.ensures.fault
