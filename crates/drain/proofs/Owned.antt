-- What all receipts add to a word is what those of the word's own slice add to it.
use Rattle.std.proofs.Common.{◌≡◌, ℕ, suc, ◌+◌, ◌<◌, ◌≤◌, ◌∙◌, ◌%◌, ◌/◌, List, [], ◌∷◌, true, if◌then◌else◌, inl, inr}
use Rattle.std.proofs.Common.{refl, sym, ap, arith, subst, sum_by, lt-ltb}
use Rattle.std.specs.List.{AllByRecursion}
use Rattle.std.proofs.lemmas.Bool.{cases_eq, eqb-true, ne_eqb}
use Rattle.std.proofs.lemmas.List.{map-append}
use Rattle.std.proofs.lemmas.List.Sums.{sum_by-append, sum_by-cons}
use Rattle.address_map.specs.declared.address.CoreId.{CoreId}
use Rattle.address_map.specs.declared.address.WordAddr.{WordAddr}
use Rattle.address_map.specs.declared.config.Config.{Config}
use Rattle.core_thread_system.specs.Core.{CoreView, port_at, receipts_of}
use Rattle.drain.specs.Owned.{AreOwnAt, AreOwnBelow, HasItsOwn}
use Rattle.drain.specs.Receipts.{ports_of, receipts_by_core}
use Rattle.drain.specs.Valued.{home_of}
use Rattle.drain.specs.Whole.{AreConfigured}
use Rattle.drain.proofs.Accepted.{by-slice, in-slice}
use Rattle.drain.proofs.Sums.{IsAdditive, only-at}
use Rattle.receipt_ledger.specs.History.{receipts_in}
use Rattle.receipt_ledger.specs.Port.{AreOwn, entries_of}
use Rattle.receipt_ledger.specs.declared.receipt.Receipt.{Receipt}
use Rattle.slice_log.specs.Log.{added_to, added_by, named}
use Rattle.slice_log.specs.declared.entry.Entry.{Entry}
use Rattle.address_map.specs.Place.{is_of_slice}

-- what the receipts add to a word
abbrev pub adds_to : WordAddr → List Receipt → ℕ
adds_to word receipts = named (entries_of receipts) word.0

adds-additive : (word : WordAddr) → IsAdditive (adds_to word)
adds-additive word = record {
  none = refl;
  both = λ xs ys.
      ap (λ (entries : List Entry). named entries word.0) (map-append (λ (r : Receipt). r.entry) xs ys)
      ∙ sum_by-append (added_to word.0) (entries_of xs) (entries_of ys);
}

-- An entry on a word of another slice adds nothing.
added-elsewhere : (c : Config) (slice : ℕ) (word : WordAddr) (e : Entry) → is_of_slice c slice e.word ≡ true
    → (slice ≡ home_of c word → ⊥) → added_to word.0 e ≡ 0
added-elsewhere c slice word e here other =
    let home : e.word.0 / 8 % c.slices ≡ slice = eqb-true _ slice here in
    ap (λ b. if b then added_by e.op else 0)
    (ne_eqb e.word.0 word.0 (λ same. other (sym home ∙ ap (λ n. n / 8 % c.slices) same)))

adds-elsewhere : (c : Config) (slice : ℕ) (core : CoreId) (word : WordAddr) (receipts : List Receipt)
    → AreOwn c slice core receipts → (slice ≡ home_of c word → ⊥) → adds_to word receipts ≡ 0
adds-elsewhere c slice core word [] own other = refl
adds-elsewhere c slice core word (r ∷ receipts) own other =
    let rest = adds-elsewhere c slice core word receipts (λ place. own (suc place)) other in
    let here = added-elsewhere c slice word r.entry (own 0 r refl).entry.word other in
    let whole = sum_by-cons (added_to word.0) r.entry (entries_of receipts) in
    omega (arith, rest, here, whole)

-- So do receipts of another slice, of whichever cores.
cores-elsewhere : (c : Config) (slice : ℕ) (word : WordAddr) (cores : List CoreView)
    → AllByRecursion (HasItsOwn c c.slices) cores → slice < c.slices → (slice ≡ home_of c word → ⊥)
    → sum_by (λ v. adds_to word (receipts_of v slice)) cores ≡ 0
cores-elsewhere c slice word [] own within other = refl
cores-elsewhere c slice word (v ∷ cores) own within other =
    let rest = cores-elsewhere c slice word cores own.1 within other in
    let here = adds-elsewhere c slice (port_at v slice).core word (receipts_of v slice) (own.0 slice within) other in
    let whole = sum_by-cons (λ (u : CoreView). adds_to word (receipts_of u slice)) v cores in
    omega (arith, rest, here, whole)

-- Where the cores of each number have their own, all have.
all-own : (c : Config) (cores : List CoreView) → AreConfigured c cores → AreOwnBelow c cores c.cores
    → AllByRecursion (HasItsOwn c c.slices) cores
all-own c [] known own = tt
all-own c (v ∷ cores) known own =
    ((own v.core.0 known.0).0 refl, all-own c cores known.1 (λ number below. (own number below).1))

pub adds-at-home : (c : Config) (cores : List CoreView) (word : WordAddr) → c.slices ≤ 4 → home_of c word < c.slices
    → AreConfigured c cores → AreOwnBelow c cores c.cores
    → adds_to word (receipts_by_core c cores) ≡ adds_to word (receipts_in (ports_of cores (home_of c word)))
adds-at-home c cores word few within known own =
    let home = home_of c word in
    let adds = adds-additive word in
    by-slice c cores (adds_to word) adds known
    ∙ only-at (λ slice. sum_by (λ v. adds_to word (receipts_of v slice)) cores) home 0 c.slices (omega arith)
    (omega (arith, within))
    (λ slice from below other.
    cores-elsewhere c slice word cores (all-own c cores known own) (omega (arith, below)) other)
    ∙ in-slice (adds_to word) adds cores home (lt-ltb home 4 (omega (arith, within, few)))

-- ---- while receipts are gathered

pub own-more : (c : Config) (n : ℕ) (v : CoreView) (receipts : List Receipt) → HasItsOwn c n v
    → receipts ≡ receipts_of v n → AreOwn c n (port_at v n).core receipts → HasItsOwn c (n + 1) v
own-more c n v receipts before are own slice below = elim (cases_eq slice n) [
  | inl same ↦
      subst (λ (k : ℕ). AreOwn c k (port_at v k).core (receipts_of v k)) (sym same)
      (subst (λ (rs : List Receipt). AreOwn c n (port_at v n).core rs) are own)
  | inr other ↦ before slice (omega (arith, below, other))
]

pub own-at-more : (c : Config) (cores : List CoreView) (n : ℕ) → AreOwnBelow c cores n → AreOwnAt c cores n
    → AreOwnBelow c cores (n + 1)
own-at-more c cores n before here number below = elim (cases_eq number n) [
  | inl same ↦ subst (AreOwnAt c cores) (sym same) here
  | inr other ↦ before number (omega (arith, below, other))
]
