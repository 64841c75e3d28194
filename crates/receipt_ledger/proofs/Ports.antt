-- A port stays one: what it holds moves with its requests and receipts.
use Rattle.std.proofs.Common.{◌≡◌, ℕ, zero, suc, ◌+◌, ◌<◌, ◌≤◌, List, [], ◌∷◌, ◌++◌, length, length-append, max, inl}
use Rattle.std.proofs.Common.{inr, Some, refl, sym, ap, subst, ◌∙◌, arith}
use Rattle.std.specs.Prelude.{slice_get}
use Rattle.std.proofs.lemmas.Bool.{cases_lt}
use Rattle.std.proofs.lemmas.List.{map-append}
use Rattle.address_map.specs.declared.address.CoreId.{CoreId}
use Rattle.address_map.specs.declared.address.SliceId.{SliceId}
use Rattle.address_map.specs.declared.config.Config.{Config}
use Rattle.address_map.specs.declared.request.Request.{Request}
use Rattle.receipt_ledger.specs.Port.{AreFreshPorts, HasRoom, IsOwn, IsPort, IsWithRoom, PortView, Room, entries_of}
use Rattle.receipt_ledger.specs.Port.{fresh_port, held_by, seen_of, with_receipt, with_request}
use Rattle.receipt_ledger.specs.declared.receipt.Receipt.{Receipt}
use Rattle.receipt_ledger.proofs.Totals.{totals_accepted, totals_nil, totals_push}
use Rattle.address_map.specs.Place.{counters_of}
use Rattle.receipt_ledger.specs.Totals.{Amounts, Totals, nothing, only_accepted, only_handed, together, totals}
use Rattle.slice_log.proofs.Pushes.{slice_get-push}

-- amounts are their two parts
pub amounts-same : (m n : ℕ) (t u : Totals) → m ≡ n → t ≡ u
    → record { parts = m; held = t } ≡ (let s : Amounts = record { parts = n; held = u } in s)
amounts-same m n t u parts held = rw (parts, held) refl

pub fresh-port : (c : Config) (number : ℕ) (core : CoreId) (slice : SliceId) (shares : Amounts) → core.0 < c.cores
    → slice.0 ≡ number → shares.parts ≡ 1 → shares.held ≡ nothing → IsPort c number (fresh_port core slice) shares
fresh-port c number core slice shares known named parts held = record {
  known = known;
  named = named;
  held =
      amounts-same shares.parts 1 shares.held (totals (counters_of c number) 0 []) parts
      (held ∙ sym (totals_nil (counters_of c number)));
  fewer = omega arith;
  reserved = omega arith;
  greatest = omega arith;
  own = λ place r there. absurd (cc);
}

before : {X : Type 0} (xs : List X) (x y : X) (k : ℕ) → slice_get xs k ≡ Some x → slice_get (xs ++ y ∷ []) k ≡ Some x
before [] x y k h = cc
before (z ∷ zs) x y zero h = h
before (z ∷ zs) x y (suc k) h = before zs x y k h

last : {X : Type 0} (xs : List X) (y : X) → slice_get (xs ++ y ∷ []) (length xs) ≡ Some y
last [] y = refl
last (x ∷ xs) y = last xs y

-- The ports of the cores below this one, and this one's.
pub ports-more : (slice : SliceId) (owner : CoreId) (ports : List PortView) (p : PortView)
    → AreFreshPorts slice owner.0 ports → p ≡ fresh_port owner slice
    → AreFreshPorts slice (owner.0 + 1) (ports ++ p ∷ [])
ports-more slice owner ports p fresh is = record {
  long = length-append ports (p ∷ []) ∙ ap (λ n. n + 1) fresh.long;
  each = λ core within. elim (cases_lt core.0 owner.0) [
    | inl below ↦ before ports (fresh_port core slice) p core.0 (fresh.each core below)
    | inr from ↦
        let here : core.0 ≡ length ports = (let long = fresh.long in omega (arith, from, within, long)) in
        let same : owner.0 ≡ core.0 = omega (arith, from, within) in
        ap (slice_get (ports ++ p ∷ [])) here
        ∙ last ports p
        ∙ ap (λ q. Some q) (is ∙ ap (λ n. fresh_port (record { 0 = n }) slice) same)
  ];
}

-- The last receipt is the one seen, where its number is the greatest.
seen-push : (receipts : List Receipt) (r : Receipt)
    → seen_of (receipts ++ r ∷ []) ≡ max (seen_of receipts) (r.number + 1)
seen-push [] r = omega arith
seen-push (first ∷ receipts) r = let rest = seen-push receipts r in omega (arith, rest)

module _ (c : Config) (number : ℕ) (p : PortView) (shares then : Amounts) (port : IsPort c number p shares)
    (parts : then.parts ≡ shares.parts) where
  abbrev had : Totals
  had = held_by c number p

  one_part : then.parts ≡ 1
  one_part = parts ∙ ap (λ (s : Amounts). s.parts) port.held

  one_more : (request : Request) → length (with_request p request).asked ≡ length p.asked + 1
  one_more request = length-append p.asked (record { request = request; seen = p.seen } ∷ [])

  -- A port with one more request is a port, where it has room for its receipt.
  pub request-port : (request : Request) → HasRoom p → then.held ≡ together shares.held (only_accepted 1)
      → IsPort c number (with_request p request) then
  request-port request roomy held = record {
    known = port.known;
    named = port.named;
    held =
        amounts-same then.parts 1 then.held (held_by c number (with_request p request)) one_part
        (held ∙ ap (λ (s : Amounts). together s.held (only_accepted 1)) port.held
        ∙ sym (totals_accepted (counters_of c number) (length p.asked) 1 (entries_of p.receipts))
        ∙ ap (λ n. totals (counters_of c number) n (entries_of p.receipts)) (sym (one_more request)));
    fewer = let fewer = port.fewer in let more = one_more request in omega (arith, fewer, more);
    reserved = let room = roomy.receipts in let more = one_more request in omega (arith, room, more);
    greatest = port.greatest;
    own = port.own;
  }

  -- A port with one more receipt of its own is a port, where it has a request in flight.
  pub receipt-port : (r : Receipt) → length p.receipts < length p.asked → IsOwn c number p.core r
      → then.held ≡ together shares.held (only_handed (counters_of c number) r.entry)
      → IsPort c number (with_receipt p r) then
  receipt-port r waiting own held = record {
    known = port.known;
    named = port.named;
    held =
        amounts-same then.parts 1 then.held (held_by c number (with_receipt p r)) one_part
        (held ∙ ap (λ (s : Amounts). together s.held (only_handed (counters_of c number) r.entry)) port.held
        ∙ sym (totals_push (counters_of c number) (length p.asked) (entries_of p.receipts) r.entry)
        ∙ ap (totals (counters_of c number) (length p.asked))
        (sym (map-append (λ (given : Receipt). given.entry) p.receipts (r ∷ []))));
    fewer = let long = length-append p.receipts (r ∷ []) in omega (arith, long, waiting);
    reserved = port.reserved;
    greatest =
        let greatest = port.greatest in
        let pushed = seen-push p.receipts r in
        omega (arith, greatest, pushed);
    own = λ place x there. elim (slice_get-push p.receipts r place x there) [
      | inl before ↦ port.own place x before.1
      | inr last ↦ subst (IsOwn c number p.core) (sym last.1) own
    ];
  }

-- A port with more room is one.
pub room-port : (c : Config) (number : ℕ) (p : PortView) (shares : Amounts) (room : Room) → IsPort c number p shares
    → length p.asked ≤ room.receipts → IsPort c number (record p { room = room }) shares
room-port c number p shares room port reserved = record {
  known = port.known;
  named = port.named;
  held = port.held;
  fewer = port.fewer;
  reserved = reserved;
  greatest = port.greatest;
  own = port.own;
}

-- A port that is another but for its room is that one, but that its lists may have got more room.
pub with-room : (base new : PortView) (room : Room) → new ≡ record base { room = room } → IsWithRoom base new
with-room base new room is = is ∙ ap (λ n. record base { room = n }) (sym (ap (λ (p : PortView). p.room) is))
