-- The exit status.
use Rattle.std.specs.Prelude.{ℕ, Result, Ok, Err}
use Rattle.litmus_text.specs.Fault as faults
use Rattle.litmus_text.specs.declared.fault.TextFault.{TextFault}

-- .. where this came of printing
abbrev pub status_of : Result ℕ TextFault → ℕ
status_of (Ok status) = status
status_of (Err fault) = faults.status_of fault
