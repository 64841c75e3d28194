-- What the exports do that judge a trace as it comes. If an allocation fails the trace ends: the handle has nothing.
use Rattle.std.specs.Prelude.{◌≡◌, ◌<◌, ◌&&◌, ℕ, nat_lt, if◌then◌else◌, List, [], ◌∷◌, ◌++◌, Option, None, Some}
use Rattle.std.specs.Prelude.{option_map}
use Rattle.address_map.specs.declared.address.WordAddr.{WordAddr}
use Rattle.lockup_c.specs.Made.{word_of}
use Rattle.lockup_c.specs.Named.{op_named}
use Rattle.lockup_c.specs.declared.held.Held.{Held}
use Rattle.lockup_c.specs.declared.held.Held.TheVariants as helds
use Rattle.lockup_c.specs.declared.structs.EntryNumbers.{EntryNumbers}
use Rattle.lockup_c.specs.declared.structs.VerdictNumbers.{VerdictNumbers}
use Rattle.trace_check.specs.SoFar.{MayBegin, Stands}
use Rattle.trace_check.specs.declared.trace_judge.TraceJudge.{TraceJudge}
use Rattle.slice_log.specs.Log.{initially}
use Rattle.slice_log.specs.declared.entry.Entry.{Entry}
use Rattle.trace_check.specs.Verdict.{IsVerdict}
use Rattle.trace_check.specs.declared.judge.TheConstants.{MOST_CORES, MOST_WORDS}
use Rattle.trace_check.specs.declared.verdict.Reason.{Reason}
use Rattle.trace_check.specs.declared.verdict.Reason.TheVariants as reasons
use Rattle.trace_check.specs.declared.verdict.Verdict.{Verdict}
use Rattle.trace_check.specs.declared.verdict.Verdict.TheVariants as verdicts

-- the handle has a trace without an initial value and an entry
pub record HasNewTrace (held : Option Held) : Type 0 where
  pub judge : TraceJudge
  pub is : held ≡ Some (helds.Trace judge)
  pub stands : Stands judge [] []

-- the word begins as the value
abbrev pub AddsWord : ℕ → ℕ → TraceJudge → TraceJudge → Type 0
AddsWord word value was is =
    (init : List (WordAddr × ℕ)) → Stands was init [] → Stands is (init ++ (word_of word, value) ∷ []) []

pub record NamesWord (word value : ℕ) (old new : Option Held) : Type 0 where
  pub was : TraceJudge
  pub is : TraceJudge
  pub before : old ≡ Some (helds.Trace was)
  pub after : new ≡ Some (helds.Trace is)
  pub adds : AddsWord word value was is

-- a word that a trace can have, and that may be given a value next
pub record CanBegin (word : ℕ) (judge : TraceJudge) : Type 0 where
  pub small : word < MOST_WORDS
  pub may : MayBegin judge (word_of word)

-- the trace can't be given a value for the word
abbrev pub IsNoBeginning : ℕ → Option Held → Type 0
IsNoBeginning word (Some (helds.Trace judge)) = CanBegin word judge → ⊥
IsNoBeginning word held = ⊥

-- an entry that a trace can have
abbrev pub entry_named : EntryNumbers → Option Entry
entry_named numbers =
    if nat_lt numbers.core MOST_CORES && nat_lt numbers.tag 64 && nat_lt numbers.word MOST_WORDS
    then option_map (λ op. record {
      op = op;
      word = record { 0 = numbers.word };
      seq = numbers.seq;
      reply = numbers.reply;
      since = numbers.since;
      core = record { 0 = numbers.core };
      tag = numbers.tag;
    }) (op_named numbers.op numbers.operand numbers.replacement)
    else None

-- the trace isn't given an entry that it can have
abbrev pub IsNoEntry : EntryNumbers → Option Held → Type 0
IsNoEntry numbers (Some (helds.Trace judge)) = entry_named numbers ≡ None
IsNoEntry numbers held = ⊥

-- one more entry is judged
pub record AddsEntry (numbers : EntryNumbers) (was is : TraceJudge) : Type 0 where
  pub entry : Entry
  pub named : entry_named numbers ≡ Some entry
  pub stands : (init : List (WordAddr × ℕ)) (entries : List Entry) → Stands was init entries
      → Stands is init (entries ++ entry ∷ [])

pub record TakesEntry (numbers : EntryNumbers) (old new : Option Held) : Type 0 where
  pub was : TraceJudge
  pub is : TraceJudge
  pub before : old ≡ Some (helds.Trace was)
  pub after : new ≡ Some (helds.Trace is)
  pub adds : AddsEntry numbers was is

abbrev pub reason_number : Reason → ℕ
reason_number reasons.Reply = 1
reason_number reasons.Order = 2
reason_number reasons.Since = 3

abbrev pub verdict_numbers : Verdict → VerdictNumbers
verdict_numbers (verdicts.Legal entries) = record { verdict = 0; entry = entries }
verdict_numbers (verdicts.Illegal entry reason) = record { verdict = reason_number reason; entry = entry }

pub record IsJudged (judge : TraceJudge) (numbers : VerdictNumbers) : Type 0 where
  pub verdict : Verdict
  pub is : (init : List (WordAddr × ℕ)) (entries : List Entry) → Stands judge init entries
      → IsVerdict (initially init) entries verdict
  pub said : numbers ≡ verdict_numbers verdict

abbrev pub no_verdict : VerdictNumbers
no_verdict = record { verdict = 0; entry = 0 }

-- what the entries come to so far
abbrev pub ShowsVerdict : ℕ → VerdictNumbers → Option Held → Type 0
ShowsVerdict code numbers (Some (helds.Trace judge)) = (code ≡ 0) × IsJudged judge numbers
ShowsVerdict code numbers held = (code ≡ 1) × (numbers ≡ no_verdict)
