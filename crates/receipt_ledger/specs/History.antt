-- The history of a slice as its ports hold it: what each of them asked for, and a receipt of each entry of the log.
use Rattle.std.specs.Prelude.{◌≡◌, ◌≤◌, ◌<◌, ◌==◌, ℕ, ◌+◌, if◌then◌else◌, List, [], ◌∷◌, ◌++◌, length, map, find}
use Rattle.std.specs.Prelude.{slice_get, Contains, IsSomeAnd, MatchOption, Some}
use Rattle.address_map.specs.declared.request.Request.{Request}
use Rattle.receipt_ledger.specs.Port.{PortView}
use Rattle.receipt_ledger.specs.declared.receipt.Receipt.{Receipt}
use Rattle.slice_log.specs.declared.entry.Entry.{Entry}

-- the receipts of the ports
abbrev pub receipts_in : List PortView → List Receipt
receipts_in [] = []
receipts_in (p ∷ ports) = p.receipts ++ receipts_in ports

-- the request that the entry performed
abbrev pub request_of : Entry → Request
request_of e = record { op = e.op; word = e.word; tag = e.tag }

-- At the entry's place among the port's requests is the request that it performed, and by then the port had seen
-- no more of the log than was there before the entry of this number.
abbrev pub HasAsked : PortView → ℕ → Entry → Type 0
HasAsked p number e = IsSomeAnd (slice_get p.asked e.seq) (λ ask. (ask.request ≡ request_of e) × (ask.seen ≤ number))

-- Among the port's receipts is that of the entry of this number.
abbrev pub HasReceipt : PortView → ℕ → Entry → Type 0
HasReceipt p number e = Contains p.receipts (record { entry = e; number = number; slice = p.slice })

-- The port of the entry's core asked for it, and has its receipt.
abbrev pub IsHeld : List PortView → ℕ → Entry → Type 0
IsHeld ports number e =
    MatchOption (find (λ p. p.core.0 == e.core.0) ports) ⊥ (λ p. HasAsked p number e × HasReceipt p number e)

-- Each entry of the log is held.
abbrev pub AreHeld : List PortView → List Entry → Type 0
AreHeld ports log = (number : ℕ) (e : Entry) → slice_get log number ≡ Some e → IsHeld ports number e

-- how often the number is in the list
abbrev pub times : ℕ → List ℕ → ℕ
times n [] = 0
times n (x ∷ xs) = (if x == n then 1 else 0) + times n xs

-- The receipt is that of the log's entry of its number, of a request that the port asked for.
pub record IsAccounted (p : PortView) (log : List Entry) (r : Receipt) : Type 0 where
  pub slice : r.slice ≡ p.slice
  pub core : r.entry.core.0 ≡ p.core.0
  pub genuine : slice_get log r.number ≡ Some r.entry
  pub asked : HasAsked p r.number r.entry

-- The ports' receipts, by number, are exactly the log: each number occurs once, with the log's entry, at the port that
-- asked for it.
pub record AreHistory (ports : List PortView) (log : List Entry) : Type 0 where
  pub once : (number : ℕ) → number < length log → times number (map (λ r. r.number) (receipts_in ports)) ≡ 1
  pub accounted : (core : ℕ) (p : PortView) → slice_get ports core ≡ Some p
      → (place : ℕ) (r : Receipt) → slice_get p.receipts place ≡ Some r → IsAccounted p log r
