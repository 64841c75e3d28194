-- The history of a slice in all receipts: the log that the cores' ports hold is the one built from its receipts.
use Rattle.std.proofs.Common.{◌≡◌, ℕ, ◌<◌, ◌≤◌, ◌∙◌, List, [], ◌∷◌, ◌++◌, Some, ap, arith, eq-eqb}
use Rattle.std.proofs.Common.{lt-ltb, refl, subst, sym}
use Rattle.std.specs.Prelude.{◌==◌, Contains, if◌then◌else◌, slice_get}
use Rattle.std.specs.Option.{option_map}
use Rattle.std.specs.List.{flat_map}
use Rattle.std.proofs.lemmas.List.Elements.{All-contains, All-from_recursion}
use Rattle.std.proofs.lemmas.Option.{slice_get-get_or, slice_get-map}
use Rattle.address_map.specs.declared.address.SliceId.{SliceId}
use Rattle.address_map.specs.declared.config.Config.{Config}
use Rattle.core_thread_system.specs.Core.{CoreView, port_at, receipts_of}
use Rattle.drain.specs.Owned.{HasItsOwn}
use Rattle.drain.specs.Receipts.{ports_of, receipts_at, receipts_by_core, receipts_of_core}
use Rattle.litmus_threads.proofs.Members.{below, counted, from-kept, in-all, in-one, is-below, kept}
use Rattle.litmus_threads.specs.Log.{AreEntriesOf}
use Rattle.litmus_threads.specs.Made.{AreOwners}
use Rattle.receipt_ledger.specs.History.{AreHistory, receipts_in}
use Rattle.receipt_ledger.specs.Port.{PortView}
use Rattle.receipt_ledger.specs.declared.receipt.Receipt.{Receipt}
use Rattle.slice_log.specs.declared.entry.Entry.{Entry}

-- what is found at a place of a list
at-place : {X : Type 0} (xs : List X) (x : X) → Contains xs x → (i : ℕ) × (slice_get xs i ≡ Some x)
at-place xs x (i, inside, is) = (i, slice_get-get_or xs i x inside ∙ ap (λ y. Some y) is)

-- a core of the machine
owner : (c : Config) (cores : List CoreView) (v : CoreView) → AreOwners c cores → Contains cores v
    → (v.core.0 < c.cores) × HasItsOwn c c.slices v
owner c cores v owners among =
    let P : CoreView → Type 0 = λ w. (w.core.0 < c.cores) × HasItsOwn c c.slices w in
    All-contains P cores v (All-from_recursion P cores owners) among

-- one of its receipts of a slice is of this
its-own : (c : Config) (v : CoreView) (slice : ℕ) (r : Receipt) → HasItsOwn c c.slices v → slice < c.slices
    → Contains (receipts_of v slice) r → r.slice.0 ≡ slice
its-own c v slice r own within has =
    let found = at-place (receipts_of v slice) r has in (own slice within found.0 r found.1).slice

-- A receipt is one that a core has of a slice.
receipt-of : (c : Config) (cores : List CoreView) (r : Receipt) → Contains (receipts_by_core c cores) r
    → (v : CoreView) × (slice : ℕ) × Contains cores v × (slice < c.slices) × Contains (receipts_of v slice) r
receipt-of c cores r has =
    let by_number = in-one (receipts_at c cores) _ r has in
    let by_core = in-one (receipts_of_core c) _ r by_number.2 in
    let by_slice = in-one (receipts_of by_core.0) _ r by_core.2 in (
      by_core.0,
      by_slice.0,
      from-kept (λ (v : CoreView). v.core.0 == by_number.0) cores by_core.0 by_core.1,
      is-below c.slices by_slice.0 by_slice.1,
      by_slice.2,
    )

-- .. and so is each of these.
of-receipts : (c : Config) (cores : List CoreView) (v : CoreView) (slice : ℕ) (r : Receipt) → Contains cores v
    → v.core.0 < c.cores → slice < c.slices → Contains (receipts_of v slice) r → Contains (receipts_by_core c cores) r
of-receipts c cores v slice r among known within has =
    in-all (receipts_at c cores) _ v.core.0 r (below c.cores v.core.0 known)
    (in-all (receipts_of_core c) _ v r
    (kept (λ (w : CoreView). w.core.0 == v.core.0) cores v among (eq-eqb v.core.0 v.core.0 refl))
    (in-all (receipts_of v) _ slice r (below c.slices slice within) has))

-- a port's receipts of a slice
ports-receipts : (v : CoreView) (slice : ℕ) → slice < 4 → receipts_of v slice ≡ (port_at v slice).receipts
ports-receipts v slice few =
    ap (λ b. if b then (port_at v slice).receipts else []) (lt-ltb slice 4 few)

together : (cores : List CoreView) (slice : ℕ)
    → receipts_in (ports_of cores slice) ≡ flat_map (λ v. (port_at v slice).receipts) cores
together [] slice = refl
together (v ∷ cores) slice = ap (λ (rs : List Receipt). (port_at v slice).receipts ++ rs) (together cores slice)

-- a receipt of all ports together is one of some port
in-port : (cores : List CoreView) (slice : ℕ) (r : Receipt) → Contains (receipts_in (ports_of cores slice)) r
    → (v : CoreView) × Contains cores v × Contains (port_at v slice).receipts r
in-port cores slice r has =
    in-one (λ (v : CoreView). (port_at v slice).receipts) cores r
    (subst (λ (rs : List Receipt). Contains rs r) (together cores slice) has)

-- By number, the receipts of a slice are the entries of the log that the cores' ports of it hold.
pub entries-of : (c : Config) (cores : List CoreView) (slice : ℕ) (log : List Entry) → c.slices ≤ 4 → slice < c.slices
    → AreOwners c cores → AreHistory (ports_of cores slice) log
    → AreEntriesOf (record { 0 = slice }) (receipts_by_core c cores) log
entries-of c cores slice log few within owners history =
    let four : slice < 4 = omega (arith, few, within) in
    let port_of : CoreView → PortView = λ v. port_at v slice in
    record {
      genuine = λ r has same.
          let (v, own_slice, among, configured, its) = receipt-of c cores r has in
          let own = its-own c v own_slice r (owner c cores v owners among).1 configured its in
          let is : own_slice ≡ slice = sym own ∙ ap (λ (s : SliceId). s.0) same in
          let here : Contains (port_at v slice).receipts r =
          subst (λ (rs : List Receipt). Contains rs r) (ports-receipts v slice four)
          (subst (λ (n : ℕ). Contains (receipts_of v n) r) is its) in
          let at = at-place cores v among in
          let place = at-place (port_at v slice).receipts r here in
          (history.accounted at.0 (port_at v slice)
          (slice_get-map port_of cores at.0 ∙ ap (option_map port_of) at.1) place.0 r place.1).genuine;
      whole = λ number less.
          let once = history.once number less in
          let (r, has, numbered) =
          counted (λ (q : Receipt). q.number) (receipts_in (ports_of cores slice)) number (omega (arith, once)) in
          let (v, among, its) = in-port cores slice r has in
          let here : Contains (receipts_of v slice) r =
          subst (λ (rs : List Receipt). Contains rs r) (sym (ports-receipts v slice four)) its in
          let core = owner c cores v owners among in
          let own = its-own c v slice r core.1 within here in (
            r,
            of-receipts c cores v slice r among core.0 within here,
            (ap (λ (n : ℕ). let s : SliceId = record { 0 = n } in s) own, numbered),
          );
    }
