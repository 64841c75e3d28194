use Rattle.std.proofs.Common.{◌≡◌, replicate}
use Rattle.mshr_file.specs.Register.{no_register}
use Rattle.mshr_file.proofs.registers.free_registers.Given as goal

abbrev pub invariant-loop : goal.invariant-loop
invariant-loop l = l.registers.items ≡ replicate l.counter no_register
