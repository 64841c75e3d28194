-- What is said of an access and of an eviction: the case that it met, what was decided, and the copies that were in
-- its way.
use Rattle.std.specs.Prelude.{ℕ, List, ◌++◌, codes, Option}
use Rattle.address_map.specs.declared.address.CoreId.{CoreId}
use Rattle.address_map.specs.declared.address.LineAddr.{LineAddr}
use Rattle.address_map.specs.declared.request.Request.{Request}
use Rattle.address_map.specs.Place.{line_of}
use Rattle.litmus_script.specs.Answer.{text_of_issued}
use Rattle.litmus_script.specs.Prints.{Adds}
use Rattle.script_explained.specs.Look.{copy_at, message_at}
use Rattle.script_explained.specs.Named.{named_by, text_of_copies, AreNamed}
use Rattle.script_explained.specs.declared.named.Named.{Named}
use Rattle.script_explained.specs.declared.named.Named.TheVariants as named_kinds
use Rattle.script_explained.specs.declared.step.AccessStep.{AccessStep}
use Rattle.script_explained.specs.declared.step.EvictionStep.{EvictionStep}
use Rattle.slice_answer.specs.Text.{text_of_evicted}
use Rattle.slice_answer.specs.declared.answer.Evicted.{Evicted}
use Rattle.slice_answer.specs.declared.answer.Evicted.TheVariants as evictions
use Rattle.slice_core_spec.specs.Decision.{decision_of}
use Rattle.slice_core_spec.specs.View.{View}
use Rattle.slice_core_exec.specs.declared.core_lines.CoreLines.TheVariants as core_lines
use Rattle.slice_queues.specs.declared.channel.Pick.TheVariants as picks
use Rattle.slice_text.specs.Issue.{event_of, text_of_eviction, text_of_issue}
use Rattle.slice_text.specs.declared.step.case.Event.TheVariants as events
use Rattle.slice_text.specs.declared.step.case.Who.TheVariants as whos
use Rattle.slice_text.specs.declared.step.issue.Eviction.{Eviction}
use Rattle.slice_text.specs.declared.step.issue.Issue.{Issue}

-- a request to the slice with this number, as it is decided
abbrev pub issue_at : ℕ → View → CoreId → Request → Issue
issue_at slice v core request = record {
  slice = slice;
  case = record { who = whos.Core core (copy_at v (line_of request.word) core); event = event_of request.op };
  request = request;
  decision = decision_of v core request;
}

-- which copies are named as the reason: those in its way, or its victim
abbrev pub named_of : Issue → Named
named_of issue = named_by (line_of issue.request.word) issue.decision

-- The answer to an access is written with what is said of it: what was decided, and the copies in its way, or its
-- victim, each as it is then.
pub record TellsAccess (access : AccessStep) (v : View) (before after : Option (List ℕ)) : Type 0 where
  pub numbers : List ℕ
  pub are_named : AreNamed (named_of access.decided) v access.core numbers
  pub written : Adds before after (text_of_issued access.issued ++ codes "   "
      ++ (text_of_issue access.decided ++ text_of_copies (named_of access.decided) v access.core numbers))

-- an eviction that a core asked the slice with this number for, as it was answered
abbrev pub eviction_of : ℕ → CoreId → LineAddr → Evicted → View → View → Eviction
eviction_of slice core line answer old new = record {
  slice = slice;
  case = record { who = whos.Core core (copy_at old line core); event = events.Eviction };
  answer = answer;
  state = copy_at new line core;
  sent = message_at new (picks.Req line core);
}

-- where the write-back buffer is full, the copies in it are named
abbrev pub named_by_answer : Evicted → Named
named_by_answer evictions.WriteBackFull = named_kinds.Lines core_lines.Leaving
named_by_answer answer = named_kinds.Nothing

-- the answer to an eviction is written with what is said of it
pub record TellsEviction (step : EvictionStep) (v : View) (before after : Option (List ℕ)) : Type 0 where
  pub numbers : List ℕ
  pub are_named : AreNamed (named_by_answer step.eviction.answer) v step.core numbers
  pub written : Adds before after (text_of_evicted step.eviction.answer ++ codes "   "
      ++ (text_of_eviction step.eviction
      ++ text_of_copies (named_by_answer step.eviction.answer) v step.core numbers))
