-- Where each entry of the log is held, and the ports have no more receipts than it has entries, the receipts are
-- exactly the log.
use Rattle.std.proofs.Common.{◌≡◌, ℕ, zero, suc, ◌+◌, ◌<◌, ◌≤◌, ◌⊎◌, Bool, true, false, cond, List, [], ◌∷◌, ◌++◌}
use Rattle.std.proofs.Common.{length, map, Option, Some, None, refl, sym, ap, ◌∙◌, subst, inl, inr, arith}
use Rattle.std.specs.Prelude.{◌==◌, find, slice_get, MatchOption}
use Rattle.std.proofs.lemmas.Bool.{eqb-true}
use Rattle.std.proofs.lemmas.List.{length-map}
use Rattle.std.proofs.lemmas.Option.{same_Some, slice_get_within}
use Rattle.receipt_ledger.proofs.Near.{contained-at}
use Rattle.receipt_ledger.proofs.Times.{are-once, counted-at, one-place}
use Rattle.receipt_ledger.specs.History.{AreHeld, AreHistory, HasAsked, HasReceipt, IsAccounted, IsHeld, receipts_in}
use Rattle.receipt_ledger.specs.History.{times}
use Rattle.receipt_ledger.specs.Port.{PortView}
use Rattle.receipt_ledger.specs.declared.receipt.Receipt.{Receipt}
use Rattle.slice_log.specs.declared.entry.Entry.{Entry}

-- ---- places of a list

got-map : {X Y : Type 0} (f : X → Y) (xs : List X) (i : ℕ) (x : X) → slice_get xs i ≡ Some x
    → slice_get (map f xs) i ≡ Some (f x)
got-map f [] i x there = absurd (cc)
got-map f (y ∷ ys) zero x there = ap (λ z. Some (f z)) (same_Some y x there)
got-map f (y ∷ ys) (suc i) x there = got-map f ys i x there

got-first : {X : Type 0} (xs ys : List X) (i : ℕ) (x : X) → slice_get xs i ≡ Some x → slice_get (xs ++ ys) i ≡ Some x
got-first [] ys i x there = absurd (cc)
got-first (z ∷ zs) ys zero x there = there
got-first (z ∷ zs) ys (suc i) x there = got-first zs ys i x there

got-later : {X : Type 0} (xs ys : List X) (i : ℕ) → slice_get (xs ++ ys) (length xs + i) ≡ slice_get ys i
got-later [] ys i = ap (slice_get ys) (let none : 0 + i ≡ i = omega arith in none)
got-later (z ∷ zs) ys i =
    ap (slice_get (z ∷ (zs ++ ys))) (let next : suc (length zs) + i ≡ suc (length zs + i) = omega arith in next)
    ∙ got-later zs ys i

record At {X : Type 0} (xs : List X) (i : ℕ) : Type 0 where
  pub element : X
  pub there : slice_get xs i ≡ Some element

got : {X : Type 0} (xs : List X) (i : ℕ) → i < length xs → At xs i
got [] i within = absurd (omega (arith, within))
got (x ∷ xs) zero within = record { element = x; there = refl }
got (x ∷ xs) (suc i) within =
    let rest = got xs i (omega (arith, within)) in record { element = rest.element; there = rest.there }

-- ---- places among all receipts

-- At this place among the receipts of all ports is this one, of this port.
abbrev StandsAt : List PortView → ℕ → PortView → Receipt → Type 0
StandsAt [] place p r = ⊥
StandsAt (q ∷ ports) place p r =
    ((q ≡ p) × (slice_get q.receipts place ≡ Some r))
    ⊎ ((later : ℕ) × (place ≡ length q.receipts + later) × StandsAt ports later p r)

stands-got : (ports : List PortView) (place : ℕ) (p : PortView) (r : Receipt) → StandsAt ports place p r
    → slice_get (receipts_in ports) place ≡ Some r
stands-got [] place p r stands = absurd stands
stands-got (q ∷ ports) place p r stands = elim stands [
  | inl here ↦ got-first q.receipts (receipts_in ports) place r here.1
  | inr past ↦
      ap (slice_get (q.receipts ++ receipts_in ports)) past.1
      ∙ got-later q.receipts (receipts_in ports) past.0
      ∙ stands-got ports past.0 p r past.2
]

stands-one : (ports : List PortView) (place : ℕ) (p o : PortView) (r s : Receipt) → StandsAt ports place p r
    → StandsAt ports place o s → p ≡ o
stands-one [] place p o r s one other = absurd one
stands-one (q ∷ ports) place p o r s one other = elim one [
  | inl here ↦ elim other [
    | inl there ↦ sym here.0 ∙ there.0
    | inr past ↦
        let within = slice_get_within q.receipts place r here.1 in
        let from = past.1 in
        absurd (omega (arith, within, from))
  ]
  | inr far ↦ elim other [
    | inl there ↦
        let within = slice_get_within q.receipts place s there.1 in
        let from = far.1 in
        absurd (omega (arith, within, from))
    | inr past ↦
        let one_from = far.1 in
        let other_from = past.1 in
        let same : past.0 ≡ far.0 = omega (arith, one_from, other_from) in
        stands-one ports far.0 p o r s far.2 (subst (λ n. StandsAt ports n o s) same past.2)
  ]
]

record Stands (ports : List PortView) (p : PortView) (r : Receipt) : Type 0 where
  pub place : ℕ
  pub at : StandsAt ports place p r

stands-here : (q : PortView) (ports : List PortView) (p : PortView) (i : ℕ) (r : Receipt) → q ≡ p
    → slice_get p.receipts i ≡ Some r → Stands (q ∷ ports) p r
stands-here q ports p i r is there = record {
  place = i;
  at = inl (is, subst (λ (x : PortView). slice_get x.receipts i ≡ Some r) (sym is) there);
}

stands-later : (q : PortView) (ports : List PortView) (p : PortView) (r : Receipt) → Stands ports p r
    → Stands (q ∷ ports) p r
stands-later q ports p r stands = record {
  place = length q.receipts + stands.place;
  at = inr (stands.place, refl, stands.at);
}

stands : (ports : List PortView) (core : ℕ) (p : PortView) (i : ℕ) (r : Receipt) → slice_get ports core ≡ Some p
    → slice_get p.receipts i ≡ Some r → Stands ports p r
stands [] core p i r port there = absurd (cc)
stands (q ∷ ports) zero p i r port there = stands-here q ports p i r (same_Some q p port) there
stands (q ∷ ports) (suc core) p i r port there = stands-later q ports p r (stands ports core p i r port there)

stands-found : (test : PortView → Bool) (ports : List PortView) (p : PortView) (i : ℕ) (r : Receipt)
    → find test ports ≡ Some p → slice_get p.receipts i ≡ Some r → Stands ports p r
stands-found test [] p i r found there = absurd (cc)
stands-found test (q ∷ ports) p i r found there =
    by_test (test q) found (λ later. stands-found test ports p i r later there)
  where
    by_test : (b : Bool) → cond b (Some q) (find test ports) ≡ Some p → (find test ports ≡ Some p → Stands ports p r)
        → Stands (q ∷ ports) p r
    by_test true is rest = stands-here q ports p i r (same_Some q p is) there
    by_test false is rest = stands-later q ports p r (rest is)

found-passes : (test : PortView → Bool) (ports : List PortView) (p : PortView) → find test ports ≡ Some p
    → test p ≡ true
found-passes test [] p found = absurd (cc)
found-passes test (q ∷ ports) p found = by_test (test q) refl found (found-passes test ports p)
  where
    by_test : (b : Bool) → test q ≡ b → cond b (Some q) (find test ports) ≡ Some p
        → (find test ports ≡ Some p → test p ≡ true) → test p ≡ true
    by_test true passes is rest = subst (λ x. test x ≡ true) (same_Some q p is) passes
    by_test false fails is rest = rest is

-- ---- what is held

abbrev receipt_at : PortView → ℕ → Entry → Receipt
receipt_at p number e = record { entry = e; number = number; slice = p.slice }

-- The entry of this number is held: a port of its core asked for it, and has its receipt.
record Held (ports : List PortView) (number : ℕ) (e : Entry) : Type 0 where
  pub port : PortView
  pub core : port.core.0 ≡ e.core.0
  pub asked : HasAsked port number e
  pub stands : Stands ports port (receipt_at port number e)

held : (ports : List PortView) (number : ℕ) (e : Entry) → IsHeld ports number e → Held ports number e
held ports number e is = by_port (find (λ p. p.core.0 == e.core.0) ports) refl is
  where
    by_port : (found : Option PortView) → find (λ p. p.core.0 == e.core.0) ports ≡ found
        → MatchOption found ⊥ (λ p. HasAsked p number e × HasReceipt p number e) → Held ports number e
    by_port None found has = absurd has
    by_port (Some p) found has = record {
      port = p;
      core = eqb-true p.core.0 e.core.0 (found-passes (λ q. q.core.0 == e.core.0) ports p found);
      asked = has.0;
      stands =
          stands-found (λ q. q.core.0 == e.core.0) ports p has.1.0 (receipt_at p number e) found
          (contained-at p.receipts (receipt_at p number e) has.1);
    }

module _ (ports : List PortView) (log : List Entry) (all : AreHeld ports log)
    (sized : length (receipts_in ports) ≡ length log) where
  abbrev numbers : List ℕ
  numbers = map (λ (r : Receipt). r.number) (receipts_in ports)

  long : length numbers ≡ length log
  long = length-map (receipts_in ports) (λ (r : Receipt). r.number) ∙ sized

  numbered : (place : ℕ) (p : PortView) (r : Receipt) → StandsAt ports place p r
      → slice_get numbers place ≡ Some r.number
  numbered place p r at =
      got-map (λ (x : Receipt). x.number) (receipts_in ports) place r (stands-got ports place p r at)

  counted : (number : ℕ) → number < length numbers → 1 ≤ times number numbers
  counted number within =
      let logged = got log number (let sized = long in omega (arith, within, sized)) in
      let has = held ports number logged.element (all number logged.element logged.there) in
      counted-at number numbers has.stands.place
      (numbered has.stands.place has.port (receipt_at has.port number logged.element) has.stands.at)

  accounted : (p : PortView) (r : Receipt) → Stands ports p r → IsAccounted p log r
  accounted p r stands =
      let once = are-once numbers counted in
      let number_at = numbered stands.place p r stands.at in
      let within = once.within stands.place r.number number_at in
      let logged = got log r.number (let sized = long in omega (arith, within, sized)) in
      let e = logged.element in
      let has = held ports r.number e (all r.number e logged.there) in
      let other = receipt_at has.port r.number e in
      let same_place =
      one-place r.number numbers stands.place has.stands.place (once.once r.number within) number_at
      (numbered has.stands.place has.port other has.stands.at) in
      let at = subst (λ n. StandsAt ports n has.port other) (sym same_place) has.stands.at in
      let same_port : p ≡ has.port = stands-one ports stands.place p has.port r other stands.at at in
      let same : r ≡ other =
      same_Some r other
      (sym (stands-got ports stands.place p r stands.at) ∙ stands-got ports stands.place has.port other at) in
      let is : r.entry ≡ e = ap (λ (x : Receipt). x.entry) same in record {
        slice = ap (λ (x : Receipt). x.slice) same ∙ ap (λ (q : PortView). q.slice) (sym same_port);
        core = ap (λ (x : Entry). x.core.0) is ∙ sym has.core ∙ ap (λ (q : PortView). q.core.0) (sym same_port);
        genuine = logged.there ∙ ap (λ x. Some x) (sym is);
        asked =
            subst (λ q. HasAsked q r.number r.entry) (sym same_port)
            (subst (λ x. HasAsked has.port r.number x) (sym is) has.asked);
      }

  pub history : AreHistory ports log
  history = record {
    once = λ number within.
        (are-once numbers counted).once number (let sized = long in omega (arith, within, sized));
    accounted = λ core p there place r at. accounted p r (stands ports core p place r there at);
  }
