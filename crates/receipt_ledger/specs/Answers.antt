-- What a port's calls return, and what they leave.
use Rattle.std.specs.Prelude.{◌≡◌, ◌⊎◌, ◌<◌, ◌≤◌, ◌-◌, ℕ, true, false, List, [], ◌∷◌, length, slice_get, Option, Some}
use Rattle.std.specs.Prelude.{None, Result, Ok, Err}
use Rattle.std.specs.Option.{option_map}
use Rattle.address_map.specs.Config.{word_count}
use Rattle.address_map.specs.declared.address.SliceId.{SliceId}
use Rattle.address_map.specs.declared.address.WordAddr.{WordAddr}
use Rattle.address_map.specs.declared.config.Config.{Config}
use Rattle.address_map.specs.declared.request.Request.{Request}
use Rattle.receipt_ledger.specs.Booked.{stores_to}
use Rattle.receipt_ledger.specs.Port.{PortView, IsWithRoom, with_receipt, with_request}
use Rattle.receipt_ledger.specs.declared.receipt.Answer.{Answer}
use Rattle.receipt_ledger.specs.declared.receipt.Answer.TheVariants as answers
use Rattle.receipt_ledger.specs.declared.receipt.Receipt.{Receipt}
use Rattle.address_map.specs.Place.{counters_of, is_of_slice}
use Rattle.receipt_ledger.specs.Totals.{Totals, only_accepted, only_handed, together}
use Rattle.slice_answer.specs.declared.answer.Issue.{Issue}
use Rattle.slice_answer.specs.declared.answer.Issue.TheVariants as issues
use Rattle.slice_answer.specs.declared.answer.Refused.{Refused}
use Rattle.slice_answer.specs.declared.answer.Refused.TheVariants as refusals
use Rattle.slice_log.specs.declared.entry.Entry.{Entry}
use Rattle.slice_log.specs.declared.entry.Numbered.{Numbered}
use Rattle.slice_core_theory.specs.SmallMachine.{Asked, Step, accept, hand, perform}
use Rattle.slice_core_spec.specs.Calls.{PartsView, AfterHand, AfterIssue}

-- The receipt is of the port's slice, and of a request that the port's core made.
pub record IsReceiptOf (p : PortView) (r : Receipt) : Type 0 where
  pub slice : r.slice ≡ p.slice
  pub core : r.entry.core ≡ p.core

-- The receipt is of the port's slice, and of this request of the port's core.
pub record IsReceiptFor (p : PortView) (request : Request) (r : Receipt) : Type 0 where
  pub of : IsReceiptOf p r
  pub tag : r.entry.tag ≡ request.tag
  pub word : r.entry.word ≡ request.word
  pub op : r.entry.op ≡ request.op

-- The receipt is of the entry that the log has at its number.
abbrev pub IsGenuine : List Entry → Receipt → Type 0
IsGenuine log r = slice_get log r.number ≡ Some r.entry

-- The receipt is the list's last.
abbrev pub IsLastOf : List Receipt → Receipt → Type 0
IsLastOf receipts r = slice_get receipts (length receipts - 1) ≡ Some r

-- The request wasn't done at once.
abbrev pub IsUndone : Result Issue Refused → Type 0
IsUndone (Ok (issues.Done number)) = ⊥
IsUndone asked = Unit {0}

-- The port's answer says what the slice's does.
abbrev pub Tells : Result Issue Refused → Result Answer Refused → Type 0
Tells (Ok (issues.Done number)) (Ok (answers.Done r)) = r.number ≡ number
Tells (Ok (issues.Pending seq)) (Ok answers.Pending) = Unit {0}
Tells (Ok (issues.Stall stall)) (Ok (answers.Stall told)) = told ≡ stall
Tells (Err refused) (Err told) = told ≡ refused
Tells issue answer = ⊥

-- The slice isn't asked, and nothing has changed: the port's lists got no room, or the log is shorter than what the
-- port has seen of it.
abbrev pub IsUnasked : {X : Type 0} → PartsView → PortView → Result X Refused → PartsView → Type 0
IsUnasked {X} old port answer new =
    ((answer ≡ Err refusals.Memory)
    ⊎ ((length old.view.log < port.seen) × (answer ≡ Err (refusals.Ahead (length old.view.log)))))
    × (new ≡ old)

-- The slice was asked, whose log is at least as long as what the port has seen of it; or it wasn't asked.
abbrev pub AsksFor : PartsView → PortView → Request → Result Issue Refused → PartsView → Type 0
AsksFor old port request issue new =
    ((port.seen ≤ length old.view.log) × AfterIssue old port.core request issue new) ⊎ IsUnasked old port issue new

-- The same, where the port's answer says what the slice's does.
abbrev pub AsksSlice : PartsView → PortView → Request → Result Answer Refused → PartsView → Type 0
AsksSlice old port request answer new =
    (issue : Result Issue Refused) × AsksFor old port request issue new × Tells issue answer

-- A log that is said to be shorter than what was seen is.
abbrev pub IsShortOf : ℕ → Refused → Type 0
IsShortOf seen (refusals.Ahead length) = length < seen
IsShortOf seen refused = Unit {0}

-- The word is one of the memory, and in a line of the slice of this number.
pub record IsAtSlice (c : Config) (number : ℕ) (word : WordAddr) : Type 0 where
  pub within : word.0 < word_count c
  pub own : is_of_slice c number word ≡ true

-- What configuration and request alone say of an answer of the slice of this number. A request is judged in this order:
-- whether its word lies past the memory, or in another slice; whether its tag is above 63, or in flight; and whether it
-- stores to a counter. A failed allocation, or a log that is too short, may be reported instead of any of these.
abbrev pub IsJudged : {X : Type 0} → Config → ℕ → Request → Result X Refused → Type 0
IsJudged {X} c number request (Err refusals.OutOfRange) = word_count c ≤ request.word.0
IsJudged {X} c number request (Err refusals.WrongSlice) =
    (request.word.0 < word_count c) × (is_of_slice c number request.word ≡ false)
IsJudged {X} c number request (Err refusals.TagRange) = IsAtSlice c number request.word × (64 ≤ request.tag)
IsJudged {X} c number request (Err refusals.TagBusy) = IsAtSlice c number request.word × (request.tag < 64)
IsJudged {X} c number request (Err refusals.CounterStore) =
    IsAtSlice c number request.word × (request.tag < 64)
    × (stores_to (counters_of c number) request.op request.word ≡ true)
IsJudged {X} c number request (Err refusals.Memory) = Unit {0}
IsJudged {X} c number request (Err (refusals.Ahead length)) = Unit {0}
IsJudged {X} c number request (Ok answer) =
    IsAtSlice c number request.word × (request.tag < 64)
    × (stores_to (counters_of c number) request.op request.word ≡ false)

-- What a port has after a request with this answer: what is accepted is counted, and what is done at once is
-- handed out.
abbrev pub AfterRequest : PortView → Request → Result Answer Refused → PortView → Type 0
AfterRequest old request (Ok (answers.Done r)) new =
    IsReceiptFor old request r × IsWithRoom (with_receipt (with_request old request) r) new
AfterRequest old request (Ok answers.Pending) new = IsWithRoom (with_request old request) new
AfterRequest old request (Ok (answers.Stall stall)) new = IsWithRoom old new
AfterRequest old request (Err refused) new = IsWithRoom old new

-- The same by the slice's own answer.
abbrev pub AfterAsking : PortView → Request → Result Issue Refused → PortView → Type 0
AfterAsking old request (Ok (issues.Done number)) new =
    (r : Receipt) × IsReceiptFor old request r × (r.number ≡ number)
    × IsWithRoom (with_receipt (with_request old request) r) new
AfterAsking old request (Ok (issues.Pending seq)) new = IsWithRoom (with_request old request) new
AfterAsking old request (Ok (issues.Stall stall)) new = IsWithRoom old new
AfterAsking old request (Err refused) new = IsWithRoom old new

-- the receipt of an entry with its number
abbrev pub receipt_of : SliceId → Numbered → Receipt
receipt_of slice given = record { slice = slice; number = given.number; entry = given.entry }

-- The slice is asked for a reply where the port has a request in flight, and what it hands out is returned; where the
-- port has none, nothing is asked.
pub record AsksReply (old : PartsView) (port : PortView) (answer : Option Receipt) (new : PartsView) : Type 0 where
  pub flying : length port.receipts < length port.asked
      → (given : Option Numbered) × AfterHand old port.core given new
      × (answer ≡ option_map (receipt_of port.slice) given)
  pub landed : length port.asked ≤ length port.receipts → (answer ≡ None) × (new ≡ old)

-- What a port has after that: one more receipt, of a request of its core, or what it had.
abbrev pub AfterReply : PortView → Option Receipt → PortView → Type 0
AfterReply old (Some r) new = IsReceiptOf old r × (new ≡ with_receipt old r)
AfterReply old None new = new ≡ old

abbrev pub IsGenuineAnswer : List Entry → Result Answer Refused → Type 0
IsGenuineAnswer log (Ok (answers.Done r)) = IsGenuine log r
IsGenuineAnswer log answer = Unit {0}

-- Where the slice did a request at once, the port's last receipt is genuine.
abbrev pub IsGenuineLast : List Entry → Result Issue Refused → PortView → Type 0
IsGenuineLast log (Ok (issues.Done number)) p = (r : Receipt) → IsLastOf p.receipts r → IsGenuine log r
IsGenuineLast log issue p = Unit {0}

-- The port got one more receipt, that of the log's entry of this number, and the totals count it.
pub record IsGiven (counters : List WordAddr) (log : List Entry) (number : ℕ)
    (old new : PortView) (before after : Totals)
    : Type 0 where
  pub entry : Entry
  pub there : slice_get log number ≡ Some entry
  pub port : new ≡ with_receipt old (receipt_of old.slice (record { number = number; entry = entry }))
  pub totals : after ≡ together before (only_handed counters entry)

-- The port got one more request, which is the log's entry of this number, and its receipt, and the totals count both.
pub record IsDone (counters : List WordAddr) (log : List Entry) (number : ℕ) (request : Request) (old new : PortView)
    (before after : Totals) : Type 0 where
  pub entry : Entry
  pub there : slice_get log number ≡ Some entry
  pub port : IsWithRoom
      (with_receipt (with_request old request) (receipt_of old.slice (record { number = number; entry = entry }))) new
  pub totals : after ≡ together (together before (only_accepted 1)) (only_handed counters entry)

-- ---- the steps of the small machine that a call is

-- of a request with this answer
abbrev pub answer_steps : Asked → Result Answer Refused → List Step
answer_steps asked (Ok (answers.Done r)) = accept asked ∷ perform asked ∷ hand r.number ∷ []
answer_steps asked (Ok answers.Pending) = accept asked ∷ []
answer_steps asked answer = []

-- of a reply that is handed out, or of none
abbrev pub reply_steps : Option Receipt → List Step
reply_steps None = []
reply_steps (Some r) = hand r.number ∷ []

-- ---- receipts that others got

-- The receipt is one of this slice's log.
abbrev pub IsKnown : SliceId → List Entry → Receipt → Type 0
IsKnown slice log r = (r.slice ≡ slice) × IsGenuine log r
