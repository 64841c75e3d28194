-- What commands answer, from what a player keeps of them.
use Rattle.std.proofs.Common.{◌≡◌, ℕ, List, [], ◌∷◌, ◌++◌, Option, Some, ap, sym, subst, ◌∙◌, append_assoc}
use Rattle.std.proofs.Common.{append-nil}
use Rattle.address_map.specs.declared.config.Config.{Config}
use Rattle.litmus_text.specs.declared.command.Command.{Command}
use Rattle.litmus_text.specs.declared.fault.TextFault.{TextFault}
use Rattle.litmus_script.specs.Machine.{IsNewMachine}
use Rattle.litmus_script.specs.Play.{PlaysAll, PlaysUpTo}
use Rattle.litmus_script.specs.Prints.{IsPrinted}
use Rattle.litmus_script.specs.Script.{IsStoppedOn}
use Rattle.mshr_file.specs.Miss.{Bound}
use Rattle.slice_core_spec.specs.Calls.{PartsView}
use Rattle.script_test.specs.Answers.{Answer, Answering, AreAnswered}

module _ {P : Type 0} (slices : P → List PartsView) (config_in : P → Config) (texts : P → List (List ℕ))
    (plays : P → List ℕ → Command → Option (List ℕ) → Option (List ℕ) → P → Type 0)
    (keeps : (old new : P) (line : List ℕ) (command : Command) (before after : Option (List ℕ))
    → plays old line command before after new
    → (config_in new ≡ config_in old) × (text : List ℕ)
    × IsPrinted (config_in old) command (slices old) (slices new) (Some []) (Some text)
    × (texts new ≡ texts old ++ text ∷ []))
    (config : Config) where
  -- after the texts that were kept before comes one for each command
  pub all_answer : (commands : List (ℕ × List (List ℕ))) (old new : P) (before after : Option (List ℕ))
      → config_in old ≡ config
      → PlaysAll plays config commands old new before after
      → (more : List (List ℕ)) × (texts new ≡ texts old ++ more) × Answer config commands (slices old) (slices new) more
  all_answer [] old new before after same none = ([], ap texts none.0 ∙ sym (append-nil (texts old)), ap slices none.0)
  all_answer (s ∷ rest) old new before after same (mid, middle, one, others) =
      let next = keeps old mid one.line one.command before middle one.played in
      let behind = all_answer rest mid new middle after (next.0 ∙ same) others in (
        next.1 ∷ behind.0,
        behind.1 ∙ ap (λ done. done ++ behind.0) next.3 ∙ append_assoc (texts old) (next.1 ∷ []) behind.0,
        (
          slices mid,
          record {
            line = one.line;
            command = one.command;
            words_of = one.words_of;
            read = one.read;
            played = subst (λ k. IsPrinted k one.command (slices old) (slices mid) (Some []) (Some next.1)) same next.2;
          },
          behind.2,
        ),
      )

-- commands that are played on a new machine up to a fault
pub stopped_on : (config0 config : Config) (bound : Bound) (commands : List (ℕ × List (List ℕ)))
    (start : List PartsView)
    (none : List ℕ) (after : Option (List ℕ)) (fault : TextFault) → config0 ≡ config → none ≡ []
    → IsNewMachine config bound start
    → PlaysUpTo (Answering config0) config0 commands start (Some none) after fault
    → IsStoppedOn Answering config bound commands (Some []) after fault
stopped_on config0 config bound commands start none after fault same empty fresh stopped = record {
  start = start;
  fresh = fresh;
  stopped =
      subst (λ xs. PlaysUpTo (Answering config) config commands start (Some xs) after fault) empty
      (subst (λ k. PlaysUpTo (Answering k) k commands start (Some none) after fault) same stopped);
}

-- .. up to the last
pub answered_on : (config0 config : Config) (bound : Bound) (commands : List (ℕ × List (List ℕ)))
    (start end : List PartsView)
    (none texts more : List (List ℕ)) → config0 ≡ config → none ≡ []
    → IsNewMachine config bound start → texts ≡ none ++ more
    → Answer config0 commands start end more → AreAnswered config bound commands texts
answered_on config0 config bound commands start end none texts more same empty fresh kept answered = record {
  start = start;
  fresh = fresh;
  end = end;
  answered =
      subst (λ ts. Answer config commands start end ts) (sym (kept ∙ ap (λ done. done ++ more) empty))
      (subst (λ k. Answer k commands start end more) same answered);
}
