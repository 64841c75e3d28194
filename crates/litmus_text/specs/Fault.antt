-- The line that a fault names, and the exit status of a program that stops at it.
use Rattle.std.specs.Prelude.{◌≡◌, ℕ, List, [], ◌∷◌, ◌++◌}
use Rattle.litmus_text.specs.declared.fault.TextFault.{TextFault}
use Rattle.litmus_text.specs.declared.fault.TextFault.TheVariants.{Line, Config, CannotWrite, NoMemory}

-- the exit status: 3 if out of memory, and 2 for all that is wrong with the text or its output
abbrev pub status_of : TextFault → ℕ
status_of (Line number fault) = 2
status_of (Config error) = 2
status_of CannotWrite = 2
status_of NoMemory = 3

-- the property holds of the line that a fault names, if it names one
abbrev pub IsAtLine : (ℕ → Type 0) → TextFault → Type 0
IsAtLine holds (Line number fault) = holds number
IsAtLine holds other = Unit {0}

-- The first invalid statement has this number: those before it can be read, and with it they can't.
pub record IsFirstFault (AreRead : List (ℕ × List (List ℕ)) → Type 0) (statements : List (ℕ × List (List ℕ)))
    (number : ℕ) : Type 0 where
  pub before : List (ℕ × List (List ℕ))
  pub words : List (List ℕ)
  pub behind : List (ℕ × List (List ℕ))
  pub stands : statements ≡ before ++ (number, words) ∷ behind
  pub sound : AreRead before
  pub refused : ¬ AreRead (before ++ (number, words) ∷ [])
