-- One counter after the other, while a slice is settled: its own get the values that it has for them, in turn.
use Rattle.std.proofs.Common.{◌≡◌, ℕ, ◌+◌, ◌<◌, ◌≤◌, ◌∙◌, ◌/◌, ◌%◌, Bool, true, false, List, length, if◌then◌else◌}
use Rattle.std.proofs.Common.{refl, sym, ap, cond, arith, filter, get_or, map, set, eq-eqb, eqb-true}
use Rattle.std.proofs.lemmas.Bool.{ne_eqb}
use Rattle.std.proofs.lemmas.List.{length-map}
use Rattle.address_map.specs.declared.address.WordAddr.{WordAddr}
use Rattle.address_map.specs.declared.config.Config.{Config}
use Rattle.core_thread_system.specs.Core.{CoreView}
use Rattle.drain.specs.Receipts.{ports_of}
use Rattle.drain.specs.Valued.{home_of, settled_counter, settled_value, with_slice}
use Rattle.drain.specs.declared.report.CounterValue.{CounterValue}
use Rattle.drain.proofs.InPlace.{all-changed, changed, changed-more, map-at, next-unchanged, rank, rank-more, rank-most}
use Rattle.drain.proofs.InPlace.{rank-within, ranked, unchanged-more}
use Rattle.drain.proofs.Valued.{in_slice, map-same, map-twice}
use Rattle.address_map.specs.Place.{is_of_slice}
use Rattle.slice_lock.specs.Settled.{AreSettled}

-- The first of the counters have their values, and the next of the slice's values is the one of this place.
pub record AreSet (c : Config) (cores : List CoreView) (slice : ℕ) (old now : List CounterValue) (next i : ℕ)
    : Type 0 where
  pub counters : now ≡ changed (with_slice c cores slice) i old
  pub place : next ≡ rank (is_of_slice c slice) i c.counters

-- what is known of the next counter, and of the slice's values
pub record IsNext (c : Config) (cores : List CoreView) (slice : ℕ) (old : List CounterValue) (values : List ℕ) (i : ℕ)
    : Type 0 where
  pub words : map (λ (counter : CounterValue). counter.word) old ≡ c.counters
  pub values_are : values ≡ map (in_slice c cores slice) (filter (is_of_slice c slice) c.counters)
  pub within : i < length old

pub next-is : (c : Config) (cores left : List CoreView) (slice : ℕ) (old : List CounterValue)
    (values shown : List ℕ) (i : ℕ)
    → left ≡ cores → map (λ (counter : CounterValue). counter.word) old ≡ c.counters
    → AreSettled c slice (ports_of cores slice) values → shown ≡ values → i < length old
    → IsNext c left slice old shown i
next-is c cores left slice old values shown i same words settled read within = record {
  words = words;
  values_are =
      read ∙ settled.values_are
      ∙ ap (λ (us : List CoreView). map (in_slice c us slice) (filter (is_of_slice c slice) c.counters)) (sym same);
  within = within;
}

-- Whether the slice has a word, in terms of the same configuration.
pub home-is : (c told : Config) (word : WordAddr) (slice : ℕ) (answer : Bool) → told ≡ c
    → answer ≡ is_of_slice told slice word → answer ≡ true → home_of c word ≡ slice
home-is c told word slice answer same is there =
    eqb-true _ slice (ap (λ (k : Config). is_of_slice k slice word) (sym same) ∙ sym is ∙ there)

pub home-isnt : (c told : Config) (word : WordAddr) (slice : ℕ) (answer : Bool) → told ≡ c
    → answer ≡ is_of_slice told slice word → answer ≡ false → home_of c word ≡ slice → ⊥
home-isnt c told word slice answer same is isnt home =
    let clash : true ≡ false = sym (eq-eqb _ slice home)
    ∙ ap (λ (k : Config). is_of_slice k slice word) (sym same) ∙ sym is ∙ isnt in
    cc

module _ (c : Config) (cores : List CoreView) (slice : ℕ) (old now : List CounterValue) (values : List ℕ) (next i : ℕ)
    (d : CounterValue) (so_far : AreSet c cores slice old now next i) (is : IsNext c cores slice old values i) where
  as-it-was : get_or now i d ≡ get_or old i d
  as-it-was =
      ap (λ (all : List CounterValue). get_or all i d) so_far.counters
      ∙ next-unchanged (with_slice c cores slice) i old d is.within

  word-at : get_or c.counters i d.word ≡ (get_or old i d).word
  word-at =
      ap (λ (words : List WordAddr). get_or words i d.word) (sym is.words)
      ∙ map-at (λ (counter : CounterValue). counter.word) old i d

  is-word : i < length c.counters
  is-word =
      let long = length-map old (λ (counter : CounterValue). counter.word) in
      let same = ap (λ (words : List WordAddr). length words) is.words in
      let within = is.within in
      omega (arith, long, same, within)

  -- Whether the counter is of the slice.
  test-at : (b : Bool) → is_of_slice c slice (get_or now i d).word ≡ b
      → is_of_slice c slice (get_or c.counters i d.word) ≡ b
  test-at b test =
      ap (is_of_slice c slice) (word-at ∙ ap (λ (counter : CounterValue). counter.word) (sym as-it-was)) ∙ test

  pub next-within : home_of c (get_or now i d).word ≡ slice → next < length values
  next-within home =
      let here = rank-within (is_of_slice c slice) i c.counters d.word is-word (test-at true (eq-eqb _ slice home)) in
      let long = length-map (filter (is_of_slice c slice) c.counters) (in_slice c cores slice) in
      let all = ap (λ (vs : List ℕ). length vs) is.values_are in
      let place = so_far.place in
      omega (arith, here, long, all, place)

  value-at : home_of c (get_or now i d).word ≡ slice
      → get_or values next 0 ≡ settled_value c cores (get_or old i d).word
  value-at home =
      let word = (get_or old i d).word in
      ap (λ (vs : List ℕ). get_or vs next 0) is.values_are
      ∙ ap (λ n. get_or (map (in_slice c cores slice) (filter (is_of_slice c slice) c.counters)) n 0) so_far.place
      ∙ ranked (is_of_slice c slice) (in_slice c cores slice) i c.counters d.word 0 is-word
      (test-at true (eq-eqb _ slice home))
      ∙ ap (in_slice c cores slice) word-at
      ∙ ap (λ n. in_slice c cores n word)
      (sym (ap (λ (counter : CounterValue). home_of c counter.word) (sym as-it-was) ∙ home))

  pub own-set : (new : List CounterValue) → home_of c (get_or now i d).word ≡ slice
      → new ≡ set now i (record { word = (get_or now i d).word; value = get_or values next 0 })
      → AreSet c cores slice old new (next + 1) (i + 1)
  own-set new home changes =
      let was = get_or old i d in
      let here : is_of_slice c slice was.word ≡ true =
      eq-eqb _ slice (ap (λ (counter : CounterValue). home_of c counter.word) (sym as-it-was) ∙ home) in
      let element =
      ap (λ (counter : CounterValue). record { word = counter.word; value = get_or values next 0 }) as-it-was
      ∙ ap (λ (v : ℕ). record { word = was.word; value = v }) (value-at home)
      ∙ sym (ap (λ b. if b then settled_counter c cores was.word else was) here) in
      let more = rank-more (is_of_slice c slice) i c.counters d.word is-word in
      let one = ap {B = ℕ} (λ b. cond b 1 0) (test-at true (eq-eqb _ slice home)) in
      let place = so_far.place in record {
        counters =
            changes ∙ ap (λ (counter : CounterValue). set now i counter) element
            ∙ ap (λ (all : List CounterValue). set all i (with_slice c cores slice was)) so_far.counters
            ∙ changed-more (with_slice c cores slice) i old d is.within;
        place = omega (arith, more, one, place);
      }

  pub other-left : (home_of c (get_or now i d).word ≡ slice → ⊥) → AreSet c cores slice old now next (i + 1)
  other-left other =
      let was = get_or old i d in
      let here : is_of_slice c slice was.word ≡ false =
      ne_eqb _ slice (λ same. other (ap (λ (counter : CounterValue). home_of c counter.word) as-it-was ∙ same)) in
      let more = rank-more (is_of_slice c slice) i c.counters d.word is-word in
      let none = ap {B = ℕ} (λ b. cond b 1 0) (test-at false (ne_eqb _ slice other)) in
      let place = so_far.place in record {
        counters =
            so_far.counters
            ∙ unchanged-more (with_slice c cores slice) i old d is.within
            (ap (λ b. if b then settled_counter c cores was.word else was) here);
        place = omega (arith, more, none, place);
      }

-- There are no more than eight values.
pub next-few : (c config : Config) (cores : List CoreView) (slice : ℕ) (old now : List CounterValue) (next i : ℕ)
    → AreSet c cores slice old now next i → map (λ (counter : CounterValue). counter.word) old ≡ c.counters → config ≡ c
    → length config.counters ≤ 8 → i < length old → next < 8
next-few c config cores slice old now next i set words named few within =
    let place = set.place in
    let most = rank-most (is_of_slice c slice) i c.counters in
    let long = length-map old (λ (counter : CounterValue). counter.word) in
    let same = ap (λ (all : List WordAddr). length all) words in
    let known = ap (λ (x : Config). length x.counters) named in
    omega (arith, place, most, long, same, known, few, within)

pub all-set-in : (c : Config) (cores : List CoreView) (slice : ℕ) (old now : List CounterValue) (next i : ℕ)
    → AreSet c cores slice old now next i → i ≡ length old → now ≡ map (with_slice c cores slice) old
all-set-in c cores slice old now next i set all =
    set.counters ∙ ap (λ n. changed (with_slice c cores slice) n old) all ∙ all-changed (with_slice c cores slice) old

-- A counter keeps its word.
word-kept : (c : Config) (cores : List CoreView) (slice : ℕ) (counter : CounterValue)
    → (with_slice c cores slice counter).word ≡ counter.word
word-kept c cores slice counter =
    elim (is_of_slice c slice counter.word)
    as (λ b. (if b then settled_counter c cores counter.word else counter).word ≡ counter.word) [
      | true ↦ refl
      | false ↦ refl
    ]

pub words-kept : (c : Config) (cores : List CoreView) (slice : ℕ) (old now : List CounterValue)
    → now ≡ map (with_slice c cores slice) old
    → map (λ (counter : CounterValue). counter.word) now ≡ map (λ (counter : CounterValue). counter.word) old
words-kept c cores slice old now set =
    ap (λ (all : List CounterValue). map (λ (counter : CounterValue). counter.word) all) set
    ∙ map-twice (λ (counter : CounterValue). counter.word) (with_slice c cores slice) old
    ∙ map-same (λ counter. (with_slice c cores slice counter).word) (λ counter. counter.word)
    (word-kept c cores slice) old
