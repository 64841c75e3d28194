-- What a writer writes on a machine of this configuration is what the writer that it was before writes.
use Rattle.std.proofs.Common.{◌≡◌, ◌≢◌, ℕ, List, Option, refl, subst}
use Rattle.address_map.specs.declared.config.Config.{Config}
use Rattle.script_explained.specs.Step.{AreSteps, IsNextStep, IsStepped, Writing, WritingNext}
use Rattle.litmus_script.specs.Play.{PlaysAll, PlaysUpTo}
use Rattle.litmus_text.specs.declared.command.Command.{Command}
use Rattle.litmus_text.specs.declared.fault.TextFault.{TextFault}
use Rattle.litmus_text.specs.declared.command.Command.TheVariants as commands
use Rattle.script_explained.specs.declared.step.Step.{Step}
use Rattle.slice_answer.specs.declared.answer.Delivery.{Delivery}
use Rattle.slice_core_spec.specs.Calls.{PartsView}
use Rattle.slice_queues.specs.declared.channel.Pick.{Pick}

pub next_shown : {S : Type 0} (writes : S → WritingNext) (writer known : S) (config shape : Config)
    (old new : List PartsView) (slice : ℕ) (answer : Delivery Pick) (before after : Option (List ℕ))
    → shape ≡ config → writer ≡ known → IsNextStep (writes writer) shape old slice answer before after new
    → IsNextStep (writes known) config old slice answer before after new
next_shown writes writer known config shape old new slice answer before after same is made =
    subst (λ k. IsNextStep (writes known) k old slice answer before after new) same
    (subst (λ w. IsNextStep (writes w) shape old slice answer before after new) is made)

pub said : {S : Type 0} (writes : S → Writing) (writer known : S) (config shape : Config) (slices : List PartsView)
    (line : List ℕ) (step : Step) (before after : Option (List ℕ)) → shape ≡ config → writer ≡ known
    → writes writer shape slices line step before after → writes known config slices line step before after
said writes writer known config shape slices line step before after same is written =
    subst (λ k. writes known k slices line step before after) same
    (subst (λ w. writes w shape slices line step before after) is written)

pub steps_shown : {S : Type 0} (writes : S → Writing) (writes_next : S → WritingNext) (writer known : S)
    (config shape : Config) (old new : List PartsView) (line : List ℕ) (command : Command)
    (before after : Option (List ℕ)) → shape ≡ config → writer ≡ known
    → AreSteps (writes writer) (writes_next writer) shape old line command before after new
    → AreSteps (writes known) (writes_next known) config old line command before after new
steps_shown writes writes_next writer known config shape old new line command before after same is made =
    subst (λ k. AreSteps (writes known) (writes_next known) k old line command before after new) same
    (subst (λ w. AreSteps (writes w) (writes_next w) shape old line command before after new) is made)

-- What was played on these slices was played on those that they are.
module _ (plays : List PartsView → List ℕ → Command → Option (List ℕ) → Option (List ℕ) → List PartsView → Type 0)
    (shape config : Config) (commands : List (ℕ × List (List ℕ))) (slices start : List PartsView)
    (before after : Option (List ℕ)) where
  pub played_from : (end : List PartsView) → shape ≡ config → slices ≡ start
      → PlaysAll plays shape commands slices end before after → PlaysAll plays config commands start end before after
  played_from end one fresh played =
      subst (λ (s : List PartsView). PlaysAll plays config commands s end before after) fresh
      (subst (λ (c : Config). PlaysAll plays c commands slices end before after) one played)

  pub stopped_from : (fault : TextFault) → shape ≡ config → slices ≡ start
      → PlaysUpTo plays shape commands slices before after fault
      → PlaysUpTo plays config commands start before after fault
  stopped_from fault one fresh stopped =
      subst (λ (s : List PartsView). PlaysUpTo plays config commands s before after fault) fresh
      (subst (λ (c : Config). PlaysUpTo plays c commands slices before after fault) one stopped)

-- a command that is no pump is one step
pub one_step : (writes : Writing) (writes_next : WritingNext) (config : Config) (old : List PartsView) (line : List ℕ)
    (command : Command) (before after : Option (List ℕ)) (new : List PartsView)
    → ((calls : ℕ) → command ≢ commands.Pump calls)
    → IsStepped writes config old line command before after new
    → AreSteps writes writes_next config old line command before after new
one_step writes writes_next config old line (commands.Issue core request) before after new other one =
    record { steps = one }
one_step writes writes_next config old line (commands.Evict core l) before after new other one = record { steps = one }
one_step writes writes_next config old line (commands.Deliver pick) before after new other one = record { steps = one }
one_step writes writes_next config old line (commands.Hand core slice) before after new other one =
    record { steps = one }
one_step writes writes_next config old line (commands.Look look) before after new other one = record { steps = one }
one_step writes writes_next config old line (commands.Pump calls) before after new other one =
    absurd (other calls refl)
