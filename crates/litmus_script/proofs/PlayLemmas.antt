-- Statements that are played, one after another.
use Rattle.std.proofs.Common.{ℕ, List, [], ◌∷◌, Option, ap, inl, inr}
use Rattle.address_map.specs.declared.config.Config.{Config}
use Rattle.litmus_text.specs.declared.command.Command.{Command}
use Rattle.litmus_text.specs.declared.fault.TextFault.{TextFault}
use Rattle.litmus_script.specs.Play.{PlaysAll, PlaysOne, PlaysUpTo}

-- If each command of a player acts on the player's view, then so does a whole play.
module _ {P Q : Type 0} (view : P → Q) (Inv : P → Type 0)
    (plays : P → List ℕ → Command → Option (List ℕ) → Option (List ℕ) → P → Type 0)
    (shows : Q → List ℕ → Command → Option (List ℕ) → Option (List ℕ) → Q → Type 0)
    (step : (old new : P) (line : List ℕ) (command : Command) (before after : Option (List ℕ)) → Inv old
    → plays old line command before after new → Inv new × shows (view old) line command before after (view new))
    (config : Config) where
  one_shown : (words : List (List ℕ)) (old new : P) (before after : Option (List ℕ)) → Inv old
      → PlaysOne plays config words old new before after
      → Inv new × PlaysOne shows config words (view old) (view new) before after
  one_shown words old new before after inv one =
      let next = step old new one.line one.command before after inv one.played in (
        next.0,
        record {
          line = one.line;
          command = one.command;
          words_of = one.words_of;
          read = one.read;
          played = next.1;
        },
      )

  pub all_shown : (statements : List (ℕ × List (List ℕ))) (old new : P) (before after : Option (List ℕ)) → Inv old
      → PlaysAll plays config statements old new before after
      → PlaysAll shows config statements (view old) (view new) before after
  all_shown [] old new before after inv none = (ap view none.0, none.1)
  all_shown (s ∷ more) old new before after inv (mid, middle, one, rest) =
      let next = one_shown s.1 old mid before middle inv one in
      (view mid, middle, next.1, all_shown more mid new middle after next.0 rest)

  pub up_to_shown : (statements : List (ℕ × List (List ℕ))) (old : P) (before after : Option (List ℕ))
      (fault : TextFault) → Inv old
      → PlaysUpTo plays config statements old before after fault
      → PlaysUpTo shows config statements (view old) before after fault
  up_to_shown [] old before after fault inv none = none
  up_to_shown (s ∷ more) old before after fault inv (inl here) = inl here
  up_to_shown (s ∷ more) old before after fault inv (inr (mid, middle, one, rest)) =
      let next = one_shown s.1 old mid before middle inv one in
      inr (view mid, middle, next.1, up_to_shown more mid middle after fault next.0 rest)
