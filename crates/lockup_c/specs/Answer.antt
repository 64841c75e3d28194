-- What an export shows, and the code that it returns.
use Rattle.std.specs.Prelude.{ℕ, Result, Ok, Err}
use Rattle.lockup_c.specs.declared.answer.Fault.{Fault}
use Rattle.lockup_c.specs.declared.answer.Fault.TheVariants as faults

abbrev pub code_of_fault : Fault → ℕ
code_of_fault faults.NoMachine = 1
code_of_fault faults.OutOfRange = 2
code_of_fault faults.NoMemory = 3

abbrev pub code_of : {T : Type 0} → Result T Fault → ℕ
code_of (Ok shown) = 0
code_of (Err fault) = code_of_fault fault

-- what is shown, or what stands for nothing
abbrev pub shown_of : {T : Type 0} → T → Result T Fault → T
shown_of nothing (Ok shown) = shown
shown_of nothing (Err fault) = nothing
