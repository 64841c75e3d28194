-- What a port has: the receipts of one core of a slice, and what it holds of the slice's ledgers.
use Rattle.std.specs.Prelude.{◌≡◌, ◌≤◌, ◌<◌, ℕ, ◌+◌, true, List, [], ◌∷◌, ◌++◌, length, map, max, slice_get, Some}
use Rattle.address_map.specs.declared.address.CoreId.{CoreId}
use Rattle.address_map.specs.declared.address.SliceId.{SliceId}
use Rattle.address_map.specs.declared.config.Config.{Config}
use Rattle.address_map.specs.declared.request.Request.{Request}
use Rattle.receipt_ledger.specs.declared.receipt.Ask.{Ask}
use Rattle.receipt_ledger.specs.declared.receipt.Receipt.{Receipt}
use Rattle.address_map.specs.Place.{counters_of, is_of_slice}
use Rattle.receipt_ledger.specs.Totals.{Amounts, Totals, totals}
use Rattle.slice_log.specs.declared.entry.Entry.{Entry}

-- how many requests and how many receipts a port can hold, whatever becomes of them, before a list has to grow
pub record Room : Type 0 where
  pub asked : ℕ
  pub receipts : ℕ

pub record PortView : Type 0 where
  pub core : CoreId
  pub slice : SliceId
  -- the requests that were accepted through it, in this order
  pub asked : List Ask
  -- the receipts, in the order in which they were handed out
  pub receipts : List Receipt
  -- one more than the greatest number of a receipt that it got or learned of, and 0 before the first
  pub seen : ℕ
  pub room : Room

-- the port with these lists
abbrev pub port_with : CoreId → SliceId → List Ask → List Receipt → ℕ → Room → PortView
port_with core slice asked receipts seen room = record {
  core = core;
  slice = slice;
  asked = asked;
  receipts = receipts;
  seen = seen;
  room = room;
}

abbrev pub entries_of : List Receipt → List Entry
entries_of receipts = map (λ r. r.entry) receipts

-- one more than the greatest number
abbrev pub seen_of : List Receipt → ℕ
seen_of [] = 0
seen_of (r ∷ receipts) = max (r.number + 1) (seen_of receipts)

-- what a port with these requests and receipts holds of the totals
abbrev pub held_by : Config → ℕ → PortView → Totals
held_by c number p = totals (counters_of c number) (length p.asked) (entries_of p.receipts)

-- The slice of this number performed the entry for this core, on a word of its own.
pub record IsEntryOf (c : Config) (number : ℕ) (core : CoreId) (e : Entry) : Type 0 where
  pub core_is : e.core ≡ core
  pub word : is_of_slice c number e.word ≡ true

-- The receipt is one of the slice of this number, for this core.
pub record IsOwn (c : Config) (number : ℕ) (core : CoreId) (r : Receipt) : Type 0 where
  pub slice : r.slice.0 ≡ number
  pub entry : IsEntryOf c number core r.entry

-- Each of the receipts is such a one.
abbrev pub AreOwn : Config → ℕ → CoreId → List Receipt → Type 0
AreOwn c number core receipts = (place : ℕ) (r : Receipt) → slice_get receipts place ≡ Some r → IsOwn c number core r

-- The port is one of the slice of this number: it holds one part of each ledger, and in it just what was accepted and
-- handed out through it. Its receipts are its own, and its list has room for one of each request that was accepted.
pub record IsPort (c : Config) (number : ℕ) (p : PortView) (shares : Amounts) : Type 0 where
  pub known : p.core.0 < c.cores
  pub named : p.slice.0 ≡ number
  pub held : shares ≡ record { parts = 1; held = held_by c number p }
  pub fewer : length p.receipts ≤ length p.asked
  pub reserved : length p.asked ≤ p.room.receipts
  pub greatest : seen_of p.receipts ≤ p.seen
  pub own : AreOwn c number p.core p.receipts

-- a port through which nothing was asked for yet
abbrev pub fresh_port : CoreId → SliceId → PortView
fresh_port core slice = port_with core slice [] [] 0 (record { asked = 0; receipts = 0 })

-- There is room for one more request and for its receipt.
pub record HasRoom (p : PortView) : Type 0 where
  pub asked : length p.asked < p.room.asked
  pub receipts : length p.asked < p.room.receipts

-- the port with one more accepted request, the last, asked when it had seen so much
abbrev pub with_request : PortView → Request → PortView
with_request p request = record p {
  asked = p.asked ++ record { request = request; seen = p.seen } ∷ [];
}

-- the port that has seen the log's entry of this number
abbrev pub with_seen : PortView → ℕ → PortView
with_seen p number = record p { seen = max p.seen (number + 1) }

-- the port with one more receipt, the last
abbrev pub with_receipt : PortView → Receipt → PortView
with_receipt p r = record (with_seen p r.number) { receipts = p.receipts ++ r ∷ [] }

-- The port is that one, but that its lists may have got more room.
abbrev pub IsWithRoom : PortView → PortView → Type 0
IsWithRoom p new = new ≡ record p { room = new.room }

-- There is a port for each of `cores` cores, ascending, and nothing was asked for through any.
pub record AreFreshPorts (slice : SliceId) (cores : ℕ) (ports : List PortView) : Type 0 where
  pub long : length ports ≡ cores
  pub each : (core : CoreId) → core.0 < cores → slice_get ports core.0 ≡ Some (fresh_port core slice)
