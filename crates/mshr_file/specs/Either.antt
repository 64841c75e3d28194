-- What a file of either kind has.
use Rattle.std.specs.Prelude.{List, length}
use Rattle.mshr_file.specs.Miss.{Bound, registers, tags}
use Rattle.mshr_file.specs.Register.{misses_of}
use Rattle.mshr_file.specs.Waiting.{by_line}
use Rattle.mshr_file.specs.declared.either.EitherFile.{EitherFile}
use Rattle.mshr_file.specs.declared.either.EitherFile.TheVariants as files
use Rattle.mshr_file.specs.declared.registers.Register.{Register}

abbrev pub either_misses : EitherFile → List Register
either_misses (files.Explicit file) = misses_of file.registers
either_misses (files.Inverted waiting) = by_line waiting

abbrev pub either_bound : EitherFile → Bound
either_bound (files.Explicit file) = registers (length file.registers) file.fields
either_bound (files.Inverted waiting) = tags
