-- The values of counters while slices are settled one after the other, and once all are.
use Rattle.std.proofs.Common.{◌≡◌, ℕ, ◌+◌, ◌<◌, ◌≤◌, ◌∙◌, ◌%◌, ◌/◌, ◌^◌, Bool, true, false, List, [], ◌∷◌}
use Rattle.std.proofs.Common.{if◌then◌else◌, inl, inr, refl, sym, ap, cond, arith, filter, map, subst, lt-ltb, le-ltb}
use Rattle.std.proofs.Common.{eq-eqb}
use Rattle.std.specs.Prelude.{◌==◌, nat_lt}
use Rattle.std.proofs.lemmas.Bool.{cases_eq, cases_lt, eqb-true, ne_eqb}
use Rattle.std.proofs.lemmas.Nat.{mod_below}
use Rattle.address_map.specs.Words.{initial_value}
use Rattle.address_map.specs.declared.address.WordAddr.{WordAddr}
use Rattle.address_map.specs.declared.config.Config.{Config}
use Rattle.core_thread_system.specs.Core.{CoreView}
use Rattle.drain.specs.Audited.{AreSettledBelow, AreSettledWith, counter_after, values_in}
use Rattle.drain.specs.Owned.{AreOwnBelow}
use Rattle.drain.specs.Receipts.{ports_of, receipts_by_core}
use Rattle.drain.specs.Valued.{home_of, settled_counter, unset_counter, with_slice, with_slices}
use Rattle.drain.specs.Whole.{AreConfigured}
use Rattle.drain.specs.declared.report.CounterValue.{CounterValue}
use Rattle.drain.proofs.Owned.{adds-at-home, adds_to}
use Rattle.receipt_ledger.specs.History.{receipts_in}
use Rattle.receipt_ledger.specs.Port.{entries_of}
use Rattle.receipt_ledger.specs.declared.receipt.Receipt.{Receipt}
use Rattle.slice_log.specs.Log.{named}
use Rattle.address_map.specs.Place.{is_of_slice}
use Rattle.slice_lock.specs.Settled.{AreSettled}

-- Functions that agree everywhere give the same list.
pub map-same : {X Y : Type 0} (f g : X → Y) → ((x : X) → f x ≡ g x) → (xs : List X) → map f xs ≡ map g xs
map-same f g same [] = refl
map-same f g same (x ∷ xs) = ap (λ y. y ∷ map f xs) (same x) ∙ ap (λ ys. g x ∷ ys) (map-same f g same xs)

pub map-twice : {X Y Z : Type 0} (f : Y → Z) (g : X → Y) (xs : List X) → map f (map g xs) ≡ map (λ x. f (g x)) xs
map-twice f g [] = refl
map-twice f g (x ∷ xs) = ap (λ zs. f (g x) ∷ zs) (map-twice f g xs)

map-id : {X : Type 0} (xs : List X) → map (λ x. x) xs ≡ xs
map-id [] = refl
map-id (x ∷ xs) = ap (λ ys. x ∷ ys) (map-id xs)

-- ---- one slice after the other

pub unset-words : (c : Config) (counters : List CounterValue) → counters ≡ map unset_counter c.counters
    → map (λ (counter : CounterValue). counter.word) counters ≡ c.counters
unset-words c counters unset =
    ap (λ (all : List CounterValue). map (λ (counter : CounterValue). counter.word) all) unset
    ∙ map-twice (λ (counter : CounterValue). counter.word) unset_counter c.counters ∙ map-id c.counters

pub none-set : (c : Config) (cores : List CoreView) (words : List WordAddr)
    → map unset_counter words ≡ map (with_slices c cores 0) words
none-set c cores words =
    map-same unset_counter (with_slices c cores 0)
    (λ word. ap (λ b. if b then settled_counter c cores word else unset_counter word)
    (sym (le-ltb (home_of c word) 0 (omega arith))))
    words

-- a counter that was set or not, and that a slice other than its own leaves as it is
left : (c : Config) (cores : List CoreView) (n : ℕ) (word : WordAddr) (b : Bool) → (home_of c word == n) ≡ false
    → with_slice c cores n (if b then settled_counter c cores word else unset_counter word)
    ≡ (if b then settled_counter c cores word else unset_counter word)
left c cores n word true other =
    ap (λ e. if e then settled_counter c cores word else settled_counter c cores word) other
left c cores n word false other = ap (λ e. if e then settled_counter c cores word else unset_counter word) other

-- One more slice is settled.
word-set : (c : Config) (cores : List CoreView) (n : ℕ) (word : WordAddr)
    → with_slice c cores n (with_slices c cores n word) ≡ with_slices c cores (n + 1) word
word-set c cores n word =
    let home = home_of c word in
    let either : Bool → CounterValue = λ b. if b then settled_counter c cores word else unset_counter word in
    elim (cases_eq home n) [
      | inl same ↦
          ap (λ b. with_slice c cores n (either b)) (le-ltb home n (omega (arith, same)))
          ∙ ap (λ e. if e then settled_counter c cores word else unset_counter word) (eq-eqb home n same)
          ∙ ap either (sym (lt-ltb home (n + 1) (omega (arith, same))))
      | inr other ↦
          let alike : nat_lt home n ≡ nat_lt home (n + 1) =
          elim (cases_lt home n) [
            | inl below ↦ lt-ltb home n below ∙ sym (lt-ltb home (n + 1) (omega (arith, below)))
            | inr above ↦ le-ltb home n above ∙ sym (le-ltb home (n + 1) (omega (arith, above, other)))
          ] in
          left c cores n word (nat_lt home n) (ne_eqb home n other) ∙ ap either alike
    ]

pub slice-set : (c : Config) (cores : List CoreView) (n : ℕ) (words : List WordAddr) (old new : List CounterValue)
    → old ≡ map (with_slices c cores n) words → new ≡ map (with_slice c cores n) old
    → new ≡ map (with_slices c cores (n + 1)) words
slice-set c cores n words old new before now =
    now ∙ ap (λ (counters : List CounterValue). map (with_slice c cores n) counters) before
    ∙ map-twice (with_slice c cores n) (with_slices c cores n) words
    ∙ map-same (λ word. with_slice c cores n (with_slices c cores n word)) (with_slices c cores (n + 1))
    (word-set c cores n) words

pub home-within : (c : Config) (word : WordAddr) → 1 ≤ c.slices → home_of c word < c.slices
home-within c word some = mod_below (word.0 / 8) c.slices some

pub all-set : (c : Config) (cores : List CoreView) (words : List WordAddr) → 1 ≤ c.slices
    → map (with_slices c cores c.slices) words ≡ map (settled_counter c cores) words
all-set c cores words some =
    map-same (with_slices c cores c.slices) (settled_counter c cores)
    (λ word. ap (λ b. if b then settled_counter c cores word else unset_counter word)
    (lt-ltb (home_of c word) c.slices (home-within c word some)))
    words

-- ---- all slices

-- A settled counter has its initial value and what all receipts add to it.
pub counters-after : (c : Config) (cores : List CoreView) (receipts : List Receipt) → 1 ≤ c.slices → c.slices ≤ 4
    → AreConfigured c cores → AreOwnBelow c cores c.cores → receipts ≡ receipts_by_core c cores
    → map (settled_counter c cores) c.counters ≡ map (counter_after c receipts) c.counters
counters-after c cores receipts some few known own gathered =
    map-same (settled_counter c cores) (counter_after c receipts)
    (λ word.
    let adds = adds-at-home c cores word few (home-within c word some) known own in
    let whole = ap (adds_to word) gathered ∙ adds in
    ap (λ n. record { word = word; value = (initial_value c.init word + n) % 2 ^ 64 }) (sym whole))
    c.counters

-- what passes a test, where the two heads are alike
passed : {X Y : Type 0} (f : X → ℕ) (g : Y → ℕ) (b : Bool) (x : X) (y : Y) (xs : List X) (ys : List Y)
    → (b ≡ true → f x ≡ g y) → map f xs ≡ map g ys → map f (cond b (x ∷ xs) xs) ≡ map g (cond b (y ∷ ys) ys)
passed f g true x y xs ys same rest = ap (λ n. n ∷ map f xs) (same refl) ∙ ap (λ ns. g y ∷ ns) rest
passed f g false x y xs ys same rest = rest

-- a slice's counter, by that slice's receipts
abbrev pub in_slice : Config → List CoreView → ℕ → WordAddr → ℕ
in_slice c cores slice word =
    (initial_value c.init word + named (entries_of (receipts_in (ports_of cores slice))) word.0) % 2 ^ 64

values-of-slice : (c : Config) (cores : List CoreView) (slice : ℕ) (words : List WordAddr)
    → map (λ (counter : CounterValue). counter.value)
    (filter (λ counter. is_of_slice c slice counter.word) (map (settled_counter c cores) words))
    ≡ map (in_slice c cores slice) (filter (is_of_slice c slice) words)
values-of-slice c cores slice [] = refl
values-of-slice c cores slice (word ∷ words) =
    passed (λ (counter : CounterValue). counter.value) (in_slice c cores slice) (is_of_slice c slice word)
    (settled_counter c cores word) word
    (filter (λ counter. is_of_slice c slice counter.word) (map (settled_counter c cores) words))
    (filter (is_of_slice c slice) words)
    (λ here. ap (λ n. in_slice c cores n word) (eqb-true (home_of c word) slice here))
    (values-of-slice c cores slice words)

pub settled-with : (c : Config) (cores : List CoreView) (counters : List CounterValue)
    → counters ≡ map (settled_counter c cores) c.counters → AreSettledBelow c cores c.slices
    → AreSettledWith c cores counters
settled-with c cores counters set settled slice within =
    let found = settled slice within in
    subst (AreSettled c slice (ports_of cores slice))
    (found.1.values_are ∙ sym (values-of-slice c cores slice c.counters)
    ∙ ap (values_in c slice) (sym set))
    found.1
