-- What is generated.
use Rattle.std.specs.Prelude.{ℕ, List, Option}
use Rattle.std.specs.Io.KnownBytes.{Appends}
use Rattle.program_text.specs.Fault.{IsProgramText, programs_of, settings_of}
use Rattle.program_text.specs.declared.programs.Programs.{Programs}

-- the text is one of programs
pub record IsWorkload (text : List ℕ) : Type 0 where
  pub programs : Programs
  pub says : IsProgramText text (settings_of programs) programs.limits (programs_of programs)

-- such a text is written
pub record IsPrinted (before after : Option (List ℕ)) : Type 0 where
  pub text : List ℕ
  pub workload : IsWorkload text
  pub printed : Appends before after text
