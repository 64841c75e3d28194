-- What the exports do that judge histories. If an allocation fails as they are given, the histories end: the handle has
-- nothing.
use Rattle.std.specs.Prelude.{◌≡◌, ℕ, List, ◌==◌, ◌<◌, ◌&&◌, ◌++◌, ◌∷◌, [], nat_le, nat_lt, length, slice_get}
use Rattle.std.specs.Prelude.{if◌then◌else◌, Option, None, Some, option_map}
use Rattle.address_map.specs.declared.request.Op.{Op}
use Rattle.address_map.specs.declared.request.Op.TheVariants as ops
use Rattle.history_judge.specs.declared.access.Access.{Access}
use Rattle.history_text.specs.Histories.{accesses_at, given_at, inits_at, row_of}
use Rattle.history_text.specs.Judged.{IsVerdictOn}
use Rattle.history_text.specs.declared.extent.Extent.TheVariants as extents
use Rattle.history_text.specs.declared.histories.Histories.{Histories}
use Rattle.history_text.specs.declared.verdict.Verdict.{Verdict}
use Rattle.history_text.specs.declared.verdict.Verdict.TheVariants as verdicts
use Rattle.lockup_c.specs.Calls.{OrNoMemory, SaysFound}
use Rattle.lockup_c.specs.Named.{op_named}
use Rattle.lockup_c.specs.declared.held.Held.{Held}
use Rattle.lockup_c.specs.declared.held.Held.TheVariants as helds
use Rattle.lockup_c.specs.declared.histories.JudgedHistories.{JudgedHistories}
use Rattle.lockup_c.specs.declared.structs.AccessNumbers.{AccessNumbers}
use Rattle.lockup_c.specs.declared.structs.JudgementNumbers.{JudgementNumbers}
use Rattle.lockup_c.specs.declared.structs.ReasonNumbers.{ReasonNumbers}
use Rattle.trace_check.specs.declared.judge.TheConstants.{MOST_CORES, MOST_WORDS}

-- the handle has empty histories
pub record HasNewHistories (held : Option Held) : Type 0 where
  pub judged : JudgedHistories
  pub is : held ≡ Some (helds.Histories judged)
  pub each_word : judged.histories.extent ≡ extents.Word
  pub inits : (w : ℕ) → inits_at judged.histories w ≡ []
  pub accesses : (w : ℕ) → accesses_at judged.histories w ≡ []

-- ---- a word begins as a value

-- the value is noted after those that were given
pub record GivesWord (word value : ℕ) (was is : Histories) : Type 0 where
  pub inits : (r : ℕ) → inits_at is r ≡ (if row_of was.extent word == r
      then inits_at was r ++ (record { 0 = word }, value) ∷ [] else inits_at was r)
  pub accesses : (r : ℕ) → accesses_at is r ≡ accesses_at was r
  pub extent : is.extent ≡ was.extent

pub record GivesValue (word value : ℕ) (old new : Option Held) : Type 0 where
  pub was : JudgedHistories
  pub is : JudgedHistories
  pub before : old ≡ Some (helds.Histories was)
  pub after : new ≡ Some (helds.Histories is)
  pub gives : GivesWord word value was.histories is.histories

-- a word that a history can have, and that was given no value
pub record CanGive (word : ℕ) (histories : Histories) : Type 0 where
  pub small : word < MOST_WORDS
  pub fresh : given_at histories word ≡ None

-- the histories' word can't be given a value
abbrev pub IsNoGift : ℕ → Option Held → Type 0
IsNoGift word (Some (helds.Histories judged)) = CanGive word judged.histories → ⊥
IsNoGift word held = ⊥

-- ---- an access is added

-- the reply of a store means nothing
abbrev pub reply_named : Op → ℕ → ℕ
reply_named (ops.Store value) reply = 0
reply_named ops.Load reply = reply
reply_named (ops.Add delta) reply = reply
reply_named (ops.Cas expect new) reply = reply

-- an access that a history can have
abbrev pub access_named : AccessNumbers → Option Access
access_named numbers =
    if nat_lt numbers.core MOST_CORES && nat_lt numbers.word MOST_WORDS && nat_le numbers.begin numbers.end
    then option_map (λ op. record {
      op = op;
      reply = reply_named op numbers.reply;
      begin = numbers.begin;
      end = numbers.end;
      word = record { 0 = numbers.word };
      core = record { 0 = numbers.core };
    }) (op_named numbers.op numbers.operand numbers.replacement)
    else None

-- what is judged with the word has one more access, the last
pub record AddsAccess (numbers : AccessNumbers) (was is : Histories) : Type 0 where
  pub access : Access
  pub named : access_named numbers ≡ Some access
  pub inits : (r : ℕ) → inits_at is r ≡ inits_at was r
  pub accesses : (r : ℕ) → accesses_at is r
      ≡ (if row_of was.extent access.word.0 == r then accesses_at was r ++ access ∷ [] else accesses_at was r)
  pub extent : is.extent ≡ was.extent

pub record TakesAccess (numbers : AccessNumbers) (old new : Option Held) : Type 0 where
  pub was : JudgedHistories
  pub is : JudgedHistories
  pub before : old ≡ Some (helds.Histories was)
  pub after : new ≡ Some (helds.Histories is)
  pub adds : AddsAccess numbers was.histories is.histories

-- the histories aren't given an access that they can have
abbrev pub IsNoAccess : AccessNumbers → Option Held → Type 0
IsNoAccess numbers (Some (helds.Histories judged)) = access_named numbers ≡ None
IsNoAccess numbers held = ⊥

-- ---- what the histories come to

abbrev pub no_judgement : JudgementNumbers
no_judgement = record { verdict = 0; word = 0; reasons = 0 }

abbrev pub judgement_numbers : Verdict → ℕ → JudgementNumbers
judgement_numbers (verdicts.Coherent orders) reasons = record { verdict = 0; word = 0; reasons = reasons }
judgement_numbers (verdicts.Incoherent word reason) reasons = record { verdict = 1; word = word; reasons = reasons }
judgement_numbers (verdicts.Undecided word) reasons = record { verdict = 2; word = word; reasons = reasons }

pub record IsJudgedAs (numbers : JudgementNumbers) (reasons : List ReasonNumbers) (histories : Histories) : Type 0 where
  pub verdict : Verdict
  pub is : IsVerdictOn (inits_at histories) (accesses_at histories) verdict
  pub said : numbers ≡ judgement_numbers verdict (length reasons)

-- the histories stay, and come to this
pub record IsJudgement (numbers : JudgementNumbers) (was is : JudgedHistories) : Type 0 where
  pub histories : is.histories ≡ was.histories
  pub judged : IsJudgedAs numbers is.reasons.items was.histories

-- the call is made on the handle's histories; if it has none, this holds, and what it has stays
abbrev pub OnHistories : (JudgedHistories → JudgedHistories → Type 0) → Type 0 → Option Held → Option Held → Type 0
OnHistories Made Nothing (Some (helds.Histories old)) (Some (helds.Histories new)) = Made old new
OnHistories Made Nothing old new = Nothing × (new ≡ old)

-- .. and looks at them alone
abbrev pub AtHistories : (JudgedHistories → Type 0) → Type 0 → Option Held → Type 0
AtHistories Seen Nothing (Some (helds.Histories judged)) = Seen judged
AtHistories Seen Nothing held = Nothing

abbrev pub Judges : ℕ → JudgementNumbers → Option Held → Option Held → Type 0
Judges code numbers =
    OnHistories
    (λ was is. OrNoMemory code ((code ≡ 0) × IsJudgement numbers was is) ((numbers ≡ no_judgement) × (is ≡ was)))
    ((code ≡ 1) × (numbers ≡ no_judgement))

-- ---- one of the reasons of the last judgement

abbrev pub no_reason : ReasonNumbers
no_reason = record { why = 0; first = 0; last = 0; other = 0 }

abbrev pub ShowsReason : ℕ → ℕ → ReasonNumbers → Option Held → Type 0
ShowsReason nth code numbers =
    AtHistories
    (λ judged. SaysFound (slice_get judged.reasons.items nth) (λ it. it) no_reason code numbers)
    ((code ≡ 1) × (numbers ≡ no_reason))
