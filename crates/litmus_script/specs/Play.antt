-- How a player plays statements, each a number and words: one command after another, up to the last or to a fault.
use Rattle.std.specs.Prelude.{◌≡◌, ◌⊎◌, ℕ, List, [], ◌∷◌, Option}
use Rattle.address_map.specs.declared.config.Config.{Config}
use Rattle.litmus_script.specs.Fault.{IsFaultBehind, IsNotPlayed}
use Rattle.litmus_text.specs.Command.{IsRead}
use Rattle.litmus_text.specs.Statement.{kept_words}
use Rattle.litmus_text.specs.declared.command.Command.{Command}
use Rattle.litmus_text.specs.declared.fault.TextFault.{TextFault}
use Rattle.litmus_text.specs.declared.fault.TextFault.TheVariants as text_faults

-- a fault that isn't the text's: memory ran out, or the output couldn't be written
abbrev pub IsOfRun : TextFault → Type 0
IsOfRun text_faults.NoMemory = Unit {0}
IsOfRun text_faults.CannotWrite = Unit {0}
IsOfRun (text_faults.Line number fault) = ⊥
IsOfRun (text_faults.Config error) = ⊥

-- the words, which are those of a line, write a command that the machine has, and the player plays it
pub record PlaysOne {P : Type 0} (plays : P → List ℕ → Command → Option (List ℕ) → Option (List ℕ) → P → Type 0)
    (config : Config) (words : List (List ℕ)) (old new : P) (before after : Option (List ℕ)) : Type 0 where
  pub line : List ℕ
  pub command : Command
  pub words_of : kept_words line ≡ words
  pub read : IsRead config words command
  pub played : plays old line command before after new

-- all are played, in order: each begins at the player, and after the text, that the one before it left
abbrev pub PlaysAll : {P : Type 0} → (P → List ℕ → Command → Option (List ℕ) → Option (List ℕ) → P → Type 0) → Config
    → List (ℕ × List (List ℕ)) → P → P → Option (List ℕ) → Option (List ℕ) → Type 0
PlaysAll plays config [] old new before after = (new ≡ old) × (after ≡ before)
PlaysAll {P} plays config (statement ∷ more) old new before after =
    (mid : P) × (middle : Option (List ℕ)) × PlaysOne plays config statement.1 old mid before middle
    × PlaysAll plays config more mid new middle after

-- why a statement isn't played where a command is expected
abbrev pub IsCommandFault : Config → ℕ × List (List ℕ) → Option (List ℕ) → Option (List ℕ) → TextFault → Type 0
IsCommandFault config statement before after fault =
    IsNotPlayed (IsFaultBehind config statement.1) statement.0 before after fault

-- those before a fault are played
abbrev pub PlaysUpTo : {P : Type 0} → (P → List ℕ → Command → Option (List ℕ) → Option (List ℕ) → P → Type 0) → Config
    → List (ℕ × List (List ℕ)) → P → Option (List ℕ) → Option (List ℕ) → TextFault → Type 0
PlaysUpTo plays config [] old before after fault = ⊥
PlaysUpTo {P} plays config (statement ∷ more) old before after fault =
    IsCommandFault config statement before after fault
    ⊎ ((mid : P) × (middle : Option (List ℕ)) × PlaysOne plays config statement.1 old mid before middle
    × PlaysUpTo plays config more mid middle after fault)
