-- The value of a counter: nothing stores to it, so it is what it began with and all that was added.
use Rattle.std.proofs.Common.{◌≡◌, ℕ, zero, suc, ◌+◌, ◌*◌, ◌/◌, ◌%◌, ◌^◌, ◌<◌, Bool, true, false, cond, List, [], ◌∷◌}
use Rattle.std.proofs.Common.{◌++◌, Some, None, refl, sym, ap, ◌∙◌, subst, append-nil, append_assoc, filter, arith}
use Rattle.std.proofs.Common.{eq-eqb, lt-ltb, ⊎_elim}
use Rattle.std.specs.Prelude.{◌==◌, ◌&&◌, ◌||◌, nat_lt, if◌then◌else◌, find, slice_get, IsSome}
use Rattle.std.specs.List.{list_any}
use Rattle.std.specs.Option.{option_map_or}
use Rattle.std.proofs.Math.Nat.{mod-add-mod}
use Rattle.std.proofs.lemmas.Bool.{eqb-true}
use Rattle.std.proofs.lemmas.List.Sums.{sum_by_push}
use Rattle.std.proofs.lemmas.Option.{same_Some}
use Rattle.address_map.specs.Config.{IsAllowed, IsSliceCount}
use Rattle.address_map.specs.Locator.{lines_of, local_at}
use Rattle.address_map.specs.Place.{is_of_slice, line_of}
use Rattle.address_map.specs.Words.{initial_value}
use Rattle.address_map.specs.declared.address.WordAddr.{WordAddr}
use Rattle.address_map.specs.declared.config.Config.{Config}
use Rattle.address_map.specs.declared.request.Op.{Op}
use Rattle.address_map.specs.declared.request.Op.TheVariants as ops
use Rattle.receipt_ledger.specs.Booked.{stores_to}
use Rattle.slice_core_spec.specs.Decision.{overwrites}
use Rattle.slice_log.proofs.Values.{value-push}
use Rattle.slice_log.specs.Log.{added_to, named, stored_to, stored_by, value, value_past}
use Rattle.slice_log.specs.declared.entry.Entry.{Entry}

-- ---- stores

-- An access that overwrites nothing stores nothing.
overwrites-stored : (op : Op) (reply : ℕ) → overwrites op ≡ false → stored_by op reply ≡ None
overwrites-stored ops.Load reply none = refl
overwrites-stored (ops.Add delta) reply none = refl
overwrites-stored (ops.Store new) reply none = absurd (cc)
overwrites-stored (ops.Cas expect new) reply none = absurd (cc)

-- A counter is found among the counters.
found : (counters : List WordAddr) (place : ℕ) (word : WordAddr) → slice_get counters place ≡ Some word
    → list_any (λ counter. counter.0 == word.0) counters ≡ true
found [] place word there = absurd (cc)
found (first ∷ counters) zero word there =
    ap (λ b. b || list_any (λ counter. counter.0 == word.0) counters)
    (eq-eqb first.0 word.0 (ap (λ (w : WordAddr). w.0) (same_Some first word there)))
found (first ∷ counters) (suc place) word there =
    either (first.0 == word.0) (list_any (λ counter. counter.0 == word.0) counters) (found counters place word there)
  where
    either : (a b : Bool) → b ≡ true → (a || b) ≡ true
    either true b rest = refl
    either false b rest = rest

-- What stores to no counter stores nothing to this one.
pub spared : (counters : List WordAddr) (place : ℕ) (word : WordAddr) (e : Entry) → slice_get counters place ≡ Some word
    → stores_to counters e.op e.word ≡ false → stored_to word.0 e ≡ None
spared counters place word e there spares = by_word (e.word.0 == word.0) refl
  where
    writes : (op : Op) (b : Bool) → (overwrites op && b) ≡ false → b ≡ true → overwrites op ≡ false
    writes op true passes is = both (overwrites op) passes
      where
        both : (b : Bool) → (b && true) ≡ false → b ≡ false
        both true h = h
        both false h = h
    writes op false passes is = absurd (cc)

    by_word : (b : Bool) → (e.word.0 == word.0) ≡ b → (if b then stored_by e.op e.reply else None) ≡ None
    by_word false is = refl
    by_word true is =
        let same : e.word.0 ≡ word.0 = eqb-true e.word.0 word.0 is in
        overwrites-stored e.op e.reply
        (writes e.op (list_any (λ counter. counter.0 == e.word.0) counters) spares
        (ap (λ n. list_any (λ counter. counter.0 == n) counters) same ∙ found counters place word there))

-- ---- values

value-none : (initial w : ℕ) → value initial [] w ≡ (initial + named [] w) % 2 ^ 64
unfolding value
value-none initial w = refl

-- Where the entries store nothing to a word, its value is what it began with and what they add.
pub value-added : (initial w : ℕ) (log : List Entry)
    → ((k : ℕ) (e : Entry) → slice_get log k ≡ Some e → stored_to w e ≡ None)
    → value initial log w ≡ (initial + named log w) % 2 ^ 64
value-added initial w log none = along [] log (value-none initial w) none
  where
    along : (before rest : List Entry) → value initial before w ≡ (initial + named before w) % 2 ^ 64
        → ((k : ℕ) (e : Entry) → slice_get rest k ≡ Some e → stored_to w e ≡ None)
        → value initial (before ++ rest) w ≡ (initial + named (before ++ rest) w) % 2 ^ 64
    along before [] so_far none = rw append-nil so_far
    along before (e ∷ rest) so_far none =
        let m = 2 ^ 64 in
        let step : value initial (before ++ e ∷ []) w ≡ (initial + named (before ++ e ∷ []) w) % m =
        value-push initial before e w
        ∙ ap (λ s. value_past s (value initial before w) (added_to w e)) (none 0 e refl)
        ∙ ap (λ n. (n + added_to w e) % m) so_far
        ∙ mod-add-mod (initial + named before w) m (added_to w e)
        ∙ ap (λ n. n % m) (let more = sum_by_push (added_to w) before e in omega (arith, more)) in
        subst (λ es. value initial es w ≡ (initial + named es w) % m) (append_assoc before (e ∷ []) rest)
        (along (before ++ e ∷ []) rest step (λ k. none (suc k)))

-- ---- words of a slice

-- What is found by a test that implies another is found among those that pass the other.
find-filter : {X : Type 0} (p q : X → Bool) → ((x : X) → p x ≡ true → q x ≡ true) → (xs : List X)
    → find p (filter q xs) ≡ find p xs
find-filter {X} p q implies [] = refl
find-filter {X} p q implies (x ∷ xs) = by_tests (find-filter p q implies xs) (q x) refl (p x) refl
  where
    by_tests : find p (filter q xs) ≡ find p xs → (b : Bool) → q x ≡ b → (a : Bool) → p x ≡ a
        → find p (cond b (x ∷ filter q xs) (filter q xs)) ≡ cond (p x) (Some x) (find p xs)
    by_tests rest true passes a is = ap (cond (p x) (Some x)) rest
    by_tests rest false fails true is = absurd (let t = implies x is in cc)
    by_tests rest false fails false is = rest ∙ sym (ap (λ a. cond a (Some x) (find p xs)) is)

-- A word of the slice begins with the same value by the slice's initial values.
pub initial-here : (c : Config) (number : ℕ) (word : WordAddr) → is_of_slice c number word ≡ true
    → initial_value (filter (λ pair. is_of_slice c number pair.0) c.init) word ≡ initial_value c.init word
initial-here c number word own =
    ap (λ o. option_map_or (λ pair. pair.1) o 0)
    (find-filter (λ (pair : WordAddr × ℕ). pair.0.0 == word.0) (λ pair. is_of_slice c number pair.0)
    (λ pair same.
    ap (λ n. n / 8 % c.slices == number) (eqb-true pair.0.0 word.0 same) ∙ own) c.init)

some-both : {X : Type 0} (x : X) (a b : Bool) → a ≡ true → b ≡ true → IsSome (if a && b then Some x else None)
some-both x a b first second = rw (first, second) refl

-- A line of the slice is below the number of its lines.
below-even : (lines slices line : ℕ) → IsSliceCount slices → lines % slices ≡ 0 → line < lines
    → line / slices < lines / slices
unfolding IsSliceCount
below-even lines slices line counts even below =
    ⊎_elim (λ one. subst Below (sym one) (λ whole. omega (arith, whole, below)) even)
    (λ more.
    ⊎_elim (λ two. subst Below (sym two) (λ whole. omega (arith, whole, below)) even)
    (λ four. subst Below (sym four) (λ whole. omega (arith, whole, below)) even) more) counts
  where
    Below : ℕ → Type 0
    Below n = lines % n ≡ 0 → line / n < lines / n

-- A word of the slice is in one of its lines.
pub word-here : (c : Config) (number : ℕ) (word : WordAddr) → IsAllowed c → is_of_slice c number word ≡ true
    → word.0 < 8 * c.lines → IsSome (local_at (lines_of c (record { 0 = number })) (line_of word).0)
word-here c number word allowed own below =
    some-both (record { 0 = word.0 / 8 / c.slices }) (word.0 / 8 % c.slices == number)
    (nat_lt (word.0 / 8 / c.slices) (c.lines / c.slices)) own
    (lt-ltb (word.0 / 8 / c.slices) (c.lines / c.slices)
    (below-even c.lines c.slices (word.0 / 8) allowed.slice_counts allowed.even (omega (arith, below))))
