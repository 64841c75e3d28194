-- What a slice makes, the slice of the command's line makes.
use Rattle.std.proofs.Common.{◌≡◌, ℕ, ◌%◌, List, refl, subst, sym, ◌∙◌, ap}
use Rattle.address_map.specs.Place.{line_of as line_of_word}
use Rattle.address_map.specs.declared.address.CoreId.{CoreId}
use Rattle.address_map.specs.declared.address.LineAddr.{LineAddr}
use Rattle.address_map.specs.declared.config.Config.{Config}
use Rattle.address_map.specs.declared.request.Request.{Request}
use Rattle.litmus_script.specs.Machine.{OneSlice}
use Rattle.litmus_text.specs.declared.command.Command.TheVariants as commands
use Rattle.script_explained.specs.Step.{IsAccess, IsDelivery, IsEviction, MakesStep}
use Rattle.script_explained.specs.declared.step.AccessStep.{AccessStep}
use Rattle.script_explained.specs.declared.step.DeliveryStep.{DeliveryStep}
use Rattle.script_explained.specs.declared.step.EvictionStep.{EvictionStep}
use Rattle.script_explained.specs.declared.step.Step.TheVariants as steps
use Rattle.slice_core_spec.specs.Calls.{PartsView}
use Rattle.slice_queues.specs.Pick.{line_of}
use Rattle.slice_queues.specs.declared.channel.Pick.{Pick}

pub delivery_made : (config : Config) (pick : Pick) (slice : ℕ) (old new : List PartsView) (delivery : DeliveryStep)
    → slice ≡ (line_of pick).0 % config.slices → delivery.pick ≡ pick
    → OneSlice slice (IsDelivery slice delivery) old new
    → MakesStep config (commands.Deliver pick) old new (steps.Deliver delivery)
delivery_made config pick slice old new delivery at of_pick made =
    let there : slice ≡ (line_of delivery.pick).0 % config.slices =
    at ∙ sym (ap (λ (p : Pick). (line_of p).0 % config.slices) of_pick) in
    record {
      of_command = ap commands.Deliver of_pick;
      made = subst (λ (s : ℕ). OneSlice s (IsDelivery s delivery) old new) there made;
    }

pub access_made : (config : Config) (core : CoreId) (request : Request) (slice : ℕ) (old new : List PartsView)
    (access : AccessStep) → slice ≡ (line_of_word request.word).0 % config.slices → access.core ≡ core
    → access.decided.request ≡ request → OneSlice slice (IsAccess slice access) old new
    → MakesStep config (commands.Issue core request) old new (steps.Issue access)
access_made config core request slice old new access at of_core of_request made =
    let there : slice ≡ (line_of_word access.decided.request.word).0 % config.slices =
    at ∙ sym (ap (λ (r : Request). (line_of_word r.word).0 % config.slices) of_request) in
    record {
      of_command = rw of_core (rw of_request refl);
      made = subst (λ (s : ℕ). OneSlice s (IsAccess s access) old new) there made;
    }

pub eviction_made : (config : Config) (core : CoreId) (line : LineAddr) (slice : ℕ) (old new : List PartsView)
    (eviction : EvictionStep) → slice ≡ line.0 % config.slices → eviction.core ≡ core → eviction.line ≡ line
    → OneSlice slice (IsEviction slice eviction) old new
    → MakesStep config (commands.Evict core line) old new (steps.Evict eviction)
eviction_made config core line slice old new eviction at of_core of_line made =
    let there : slice ≡ eviction.line.0 % config.slices =
    at ∙ sym (ap (λ (l : LineAddr). l.0 % config.slices) of_line) in
    record {
      of_command = rw of_core (rw of_line refl);
      made = subst (λ (s : ℕ). OneSlice s (IsEviction s eviction) old new) there made;
    }
