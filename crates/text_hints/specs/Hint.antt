-- The faults for which there may be a hint.
use Rattle.litmus_text.specs.declared.fault.TextFault.{TextFault}
use Rattle.litmus_text.specs.declared.fault.TextFault.TheVariants as text_faults

-- The text is invalid. That isn't so if an allocation or a write fails.
abbrev pub IsOfText : TextFault → Type 0
IsOfText (text_faults.Line number fault) = Unit {0}
IsOfText (text_faults.Config error) = Unit {0}
IsOfText text_faults.CannotWrite = ⊥
IsOfText text_faults.NoMemory = ⊥
