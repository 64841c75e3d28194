-- What is said of a delivery: the case that the message in front of the channel met, what was planned for it, and what
-- was done of that.
use Rattle.std.specs.Prelude.{ℕ, List, ◌++◌, codes, length, Option, Some, None}
use Rattle.std.specs.Option.{option_map}
use Rattle.address_map.specs.declared.address.CoreId.{CoreId}
use Rattle.litmus_text.specs.Command.{parts_of}
use Rattle.litmus_text.specs.declared.command.Command.TheVariants as commands
use Rattle.script_explained.specs.Look.{copy_at, entry_of, message_at}
use Rattle.litmus_text.specs.Line.{text_of_parts}
use Rattle.slice_core_spec.specs.Calls.{core_of}
use Rattle.slice_core_spec.specs.Plan.{planned_at}
use Rattle.slice_core_spec.specs.View.{View}
use Rattle.slice_queues.specs.Pick.{channel_of, line_of}
use Rattle.slice_queues.specs.declared.channel.Pick.{Pick}
use Rattle.slice_queues.specs.declared.channel.Pick.TheVariants as picks
use Rattle.slice_text.specs.Delivery.{text_of_delivery}
use Rattle.slice_text.specs.declared.step.case.Case.{Case}
use Rattle.slice_text.specs.declared.step.case.Event.TheVariants as events
use Rattle.slice_text.specs.declared.step.case.Who.{Who}
use Rattle.slice_text.specs.declared.step.case.Who.TheVariants as whos
use Rattle.slice_text.specs.declared.step.delivery.ExplainedDelivery.{ExplainedDelivery}
use Rattle.slice_text.specs.declared.step.effects.Done.{Done}
use Rattle.slice_answer.specs.declared.answer.Delivery.{Delivery}
use Rattle.slice_core_spec.specs.declared.transition.Transition.{Transition}

-- who takes the message in front of a channel of the slice with this number
abbrev pub who_takes : ℕ → View → Pick → Who
who_takes slice v (picks.Req line core) = whos.Directory slice (entry_of v line)
who_takes slice v (picks.Fwd line core) = whos.Core core (copy_at v line core)
who_takes slice v (picks.Data line core) = whos.Core core (copy_at v line core)
who_takes slice v (picks.Ack line to from) = whos.Core to (copy_at v line to)
who_takes slice v (picks.Home line) = whos.Directory slice (entry_of v line)

-- the case that it meets; none where no message waits
abbrev pub case_at : ℕ → View → Pick → Option Case
case_at slice v pick =
    option_map (λ message. record { who = who_takes slice v pick; event = events.Message message }) (message_at v pick)

-- what was done, where the log had `first` entries before
abbrev pub done_at : ℕ → View → Pick → Done
done_at first v pick =
    let core : CoreId = core_of (channel_of pick) in
    record {
      first = first;
      end = length v.log;
      asked = message_at v (picks.Req (line_of pick) core);
      state = copy_at v (line_of pick) core;
    }

-- the delivery of the message that met a case; none where no message waits
abbrev pub delivery_at : ℕ → Pick → Delivery Transition → Done → Option Case → Option ExplainedDelivery
delivery_at slice pick plan done case =
    option_map (λ met. record { slice = slice; core = core_of (channel_of pick); case = met; plan = plan; done = done })
    case

-- .. from the one state to the other
abbrev pub delivery_of : ℕ → Pick → View → View → Option ExplainedDelivery
delivery_of slice pick old new =
    delivery_at slice pick (planned_at old pick) (done_at (length old.log) new pick) (case_at slice old pick)

-- what is said of it
abbrev pub told_of_delivery : Option ExplainedDelivery → List ℕ
told_of_delivery None = codes "no message waits"
told_of_delivery (Some delivery) = text_of_delivery delivery

-- ---- a delivery that a pump makes

-- the command that makes it, and what is said of it
abbrev pub text_of_made : Pick → Option ExplainedDelivery → List ℕ
text_of_made pick delivery =
    text_of_parts (parts_of (commands.Deliver pick)) ++ codes "   " ++ told_of_delivery delivery ++ codes "\n"
