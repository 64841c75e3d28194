-- The outcome of a round, in what an audit found.
use Rattle.std.specs.Prelude.{◌≡◌, ℕ, List, ◌++◌, Option, All, Contains, IfSome, IsSomeAnd, map}
use Rattle.std.specs.List.{AllZip}
use Rattle.drain.specs.declared.report.CounterValue.{CounterValue}
use Rattle.litmus_test.specs.NamedRequest.{IsOf}
use Rattle.litmus_test.specs.declared.outcomes.named_request.NamedRequest.{NamedRequest}
use Rattle.receipt_ledger.specs.declared.receipt.Receipt.{Receipt}

-- The reply is that of a receipt of the request.
pub record IsReplyTo (receipts : List Receipt) (named_request : NamedRequest) (reply : ℕ) : Type 0 where
  pub receipt : Receipt
  pub had : Contains receipts receipt
  pub its : IsOf named_request receipt.slice receipt.entry
  pub is : reply ≡ receipt.entry.reply

-- There is such a request, and this is its reply.
abbrev pub HasReply : List Receipt → Option NamedRequest → ℕ → Type 0
HasReply receipts named_request reply = IsSomeAnd named_request (λ s. IsReplyTo receipts s reply)

-- No receipt is of the request, or there is no such request.
abbrev pub LacksReply : List Receipt → Option NamedRequest → Type 0
LacksReply receipts named_request = IfSome named_request (λ s. All (λ r. ¬ IsOf s r.slice r.entry) receipts)

-- One of the requests has no reply.
abbrev pub LacksAReply : List Receipt → List (Option NamedRequest) → Type 0
LacksAReply receipts named_requests = (named_request : Option NamedRequest) × Contains named_requests named_request
    × LacksReply receipts named_request

-- The outcome is the reply of each request, and after these each counter's value.
pub record IsOutcomeIn (receipts : List Receipt) (counters : List CounterValue)
    (named_requests : List (Option NamedRequest))
    (values : List ℕ) : Type 0 where
  pub replies : List ℕ
  pub each : AllZip (HasReply receipts) named_requests replies
  pub all : values ≡ replies ++ map (λ counter. counter.value) counters
