-- What a core's calls return, and what they leave.
use Rattle.std.specs.Prelude.{◌≡◌, ℕ, ◌+◌, ◌<◌, ◌%◌, nat_le, if◌then◌else◌, Option, Some, None, Result, Ok, Err}
use Rattle.std.specs.Prelude.{MatchOption}
use Rattle.address_map.specs.Config.{word_count}
use Rattle.address_map.specs.CoreSet.{has, with, without}
use Rattle.address_map.specs.Place.{line_of, slice_of}
use Rattle.address_map.specs.declared.config.Config.{Config}
use Rattle.address_map.specs.declared.request.Request.{Request}
use Rattle.core_thread_system.specs.Core.{CoreView, port_at, with_port}
use Rattle.receipt_ledger.specs.Answers.{AfterReply, AfterRequest, IsJudged}
use Rattle.receipt_ledger.specs.declared.receipt.Answer.{Answer}
use Rattle.receipt_ledger.specs.declared.receipt.Answer.TheVariants as answers
use Rattle.receipt_ledger.specs.declared.receipt.Receipt.{Receipt}
use Rattle.slice_answer.specs.declared.answer.Refused.{Refused}
use Rattle.slice_answer.specs.declared.answer.Refused.TheVariants as refusals

-- Why the core itself refuses a request while these tags are in flight: the first of these reasons, in this order.
unfoldable pub refusal_of : Config → ℕ → Request → Option Refused
refusal_of c tags request =
    if nat_le (word_count c) request.word.0 then Some refusals.OutOfRange
    else if nat_le 64 request.tag then Some refusals.TagRange
    else if has tags request.tag then Some refusals.TagBusy
    else None

-- A tag is in flight from the moment at which its request has to wait.
abbrev pub tags_after : ℕ → Request → Result Answer Refused → ℕ
tags_after tags request (Ok answers.Pending) = with tags request.tag
tags_after tags request answer = tags

-- The slice of this number was asked, through the core's port of it, and no other port has changed.
pub record AfterAsking (slice : ℕ) (old : CoreView) (request : Request) (answer : Result Answer Refused)
    (new : CoreView) : Type 0 where
  pub port : AfterRequest (port_at old slice) request answer (port_at new slice)
  pub others : new ≡ record (with_port old slice (port_at new slice)) { tags = tags_after old.tags request answer }

-- The core refuses the request, and nothing has changed; or it asks the slice that has the word.
abbrev pub AfterIssue : Config → CoreView → Request → Result Answer Refused → CoreView → Type 0
AfterIssue c old request answer new =
    MatchOption (refusal_of c old.tags request)
    (AfterAsking (slice_of c (line_of request.word)).0 old request answer new)
    (λ refused. (answer ≡ Err refused) × (new ≡ old))

-- The request wasn't taken to a slice that doesn't have its word.
abbrev pub IsAtItsSlice : Result Answer Refused → Type 0
IsAtItsSlice (Err refusals.WrongSlice) = ⊥
IsAtItsSlice answer = Unit {0}

-- Word, tag and access were judged as the slice that has the word judges them.
abbrev pub IsJudgedThere : Config → Request → Result Answer Refused → Type 0
IsJudgedThere c request answer = IsJudged c (slice_of c (line_of request.word)).0 request answer

-- The request is refused for this reason, at the slice that has its word.
abbrev pub IsRefusal : Config → Request → Refused → Type 0
IsRefusal c request refused = IsJudgedThere c request (Err refused) × IsAtItsSlice (Err refused)

-- A reply was handed out: it is the receipt's slice whose port has one more receipt, the receipt's tag is no longer in
-- flight, and the slice after it is asked first the next time.
pub record HasReceived (c : Config) (old : CoreView) (r : Receipt) (new : CoreView) : Type 0 where
  pub configured : r.slice.0 < c.slices
  pub port : AfterReply (port_at old r.slice.0) (Some r) (port_at new r.slice.0)
  pub others :
      new
      ≡ record (with_port old r.slice.0 (port_at new r.slice.0)) {
        tags = without old.tags r.entry.tag;
        next = (r.slice.0 + 1) % c.slices;
      }

-- One reply was handed out, or none, and nothing has changed.
abbrev pub AfterCollect : Config → CoreView → Option Receipt → CoreView → Type 0
AfterCollect c old (Some r) new = HasReceived c old r new
AfterCollect c old None new = new ≡ old
