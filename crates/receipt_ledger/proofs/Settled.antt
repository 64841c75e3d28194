-- Where a slice is quiet and its ports hold all that its book counts, they account for it.
use Rattle.std.proofs.Common.{◌≡◌, ℕ, suc, ◌+◌, ◌<◌, ◌%◌, ◌^◌, true, get_or, List, [], ◌∷◌, length, map, Some, refl}
use Rattle.std.proofs.Common.{sym, ap, ◌∙◌, subst, arith}
use Rattle.std.specs.Prelude.{Contains, slice_get, IsSome, Option, None}
use Rattle.address_map.specs.Config.{word_count}
use Rattle.address_map.specs.Locator.{local_at}
use Rattle.address_map.specs.Place.{counters_of, is_of_slice, line_of}
use Rattle.address_map.specs.declared.address.Local.{Local}
use Rattle.slice_core.specs.Facts.{ShowsLast}
use Rattle.receipt_ledger.specs.Slice.{IsSliceOf}
use Rattle.std.specs.Option.{option_map_or}
use Rattle.std.proofs.lemmas.Option.{get_or_from_slice_get, slice_get-get_or, slice_get_within}
use Rattle.std.proofs.lemmas.List.{length-map, map-append}
use Rattle.std.proofs.lemmas.List.Elements.{All-filter, Contains-get_or, filter_passes}
use Rattle.address_map.specs.Words.{initial_value}
use Rattle.address_map.specs.declared.address.WordAddr.{WordAddr}
use Rattle.address_map.specs.declared.config.Config.{Config}
use Rattle.receipt_ledger.proofs.History.{history}
use Rattle.receipt_ledger.proofs.Marks.{handed_out-all}
use Rattle.receipt_ledger.proofs.Quiet.{quiet-replies, quiet-waits}
use Rattle.receipt_ledger.proofs.Values.{initial-here, spared, value-added, word-here}
use Rattle.receipt_ledger.specs.Booked.{IsTied}
use Rattle.receipt_ledger.specs.Counted.{handed_out}
use Rattle.receipt_ledger.specs.Port.{PortView, entries_of}
use Rattle.receipt_ledger.specs.History.{AreHeld, receipts_in}
use Rattle.receipt_ledger.specs.Settled.{IsSettled, accepted_in, held_in}
use Rattle.receipt_ledger.specs.declared.receipt.Receipt.{Receipt}
use Rattle.receipt_ledger.proofs.CounterWords.{counters_allowed}
use Rattle.receipt_ledger.proofs.Totals.{totals_append, totals_nil}
use Rattle.receipt_ledger.proofs.Sums.{at_sums}
use Rattle.receipt_ledger.specs.Sums.{at, sums}
use Rattle.receipt_ledger.specs.Totals.{Totals, together, totals}
use Rattle.slice_log.specs.Log.{IsLegal, IsOrdered, initially, named, value}
use Rattle.slice_log.specs.declared.entry.Entry.{Entry}
use Rattle.slice_core_theory.specs.SmallMachine.{Asked}
use Rattle.slice_core_spec.specs.Calls.{PartsView}
use Rattle.slice_core_spec.specs.View.{View, IsQuiet}

-- Ports hold together what was accepted and handed out through all of them.
held-totals : (c : Config) (number : ℕ) (ports : List PortView)
    → held_in c number ports ≡ totals (counters_of c number) (accepted_in ports) (entries_of (receipts_in ports))
held-totals c number [] = sym (totals_nil (counters_of c number))
held-totals c number (p ∷ ports) =
    ap (together (totals (counters_of c number) (length p.asked) (entries_of p.receipts))) (held-totals c number ports)
    ∙ sym (totals_append (counters_of c number) (length p.asked) (accepted_in ports) (entries_of p.receipts)
    (entries_of (receipts_in ports)))
    ∙ ap (totals (counters_of c number) ((length p.asked) + accepted_in ports))
    (sym (map-append (λ (r : Receipt). r.entry) p.receipts (receipts_in ports)))

-- Where nothing waits, a book has counted just the log.
quiet-totals : (c : Config) (number : ℕ) (t : Totals) (p : PartsView) → IsTied c number t p → IsQuiet p.view
    → t ≡ totals (counters_of c number) (length p.view.log) p.view.log
quiet-totals c number t p tied quiet =
    tied.booked.totals_are
    ∙ ap (λ n. totals (counters_of c number) n (handed_out p.view.log tied.booked.marks))
    (none-wait tied.booked.waiting
    (λ r there. quiet-waits p.view quiet r ((tied.booked.counted.waits r).1 there)) (length p.view.log))
    ∙ ap (totals (counters_of c number) (length p.view.log))
    (handed_out-all p.view.log tied.booked.marks tied.booked.counted.sized
    (λ number named. quiet-replies p.view quiet number ((tied.booked.counted.replies number).1 named)))
  where
    none-wait : (waiting : List Asked) → ((r : Asked) → Contains waiting r → ⊥) → (n : ℕ) → length waiting + n ≡ n
    none-wait [] none n = omega arith
    none-wait (r ∷ waiting) none n = absurd (none r (Contains-get_or (r ∷ waiting) 0 r (omega arith)))

-- Lists of what functions give at the elements are the same, where the functions agree at each of them.
map-agree : {X : Type 0} (f h : X → ℕ) (xs : List X) → ((place : ℕ) (x : X) → slice_get xs place ≡ Some x → f x ≡ h x)
    → map f xs ≡ map h xs
map-agree f h [] agree = refl
map-agree f h (x ∷ xs) agree =
    ap (λ y. y ∷ map f xs) (agree 0 x refl) ∙ ap (λ ys. h x ∷ ys) (map-agree f h xs (λ place. agree (suc place)))

-- A counter of the slice is a word of it.
counter-here : (c : Config) (number place : ℕ) (word : WordAddr) → slice_get (counters_of c number) place ≡ Some word
    → is_of_slice c number word ≡ true
counter-here c number place word there =
    let counters = counters_of c number in
    let passes = filter_passes (is_of_slice c number) c.counters in
    let within = slice_get_within counters place word there in
    subst (λ w. is_of_slice c number w ≡ true) (get_or_from_slice_get counters place word word there)
    (passes place word within)

pub settled : (c : Config) (number : ℕ) (t : Totals) (p : PartsView) (ports : List PortView) (values : List ℕ)
    → IsTied c number t p → IsQuiet p.view → AreHeld ports p.view.log → IsLegal (initially p.view.init) p.view.log
    → IsOrdered p.view.log → held_in c number ports ≡ t
    → values ≡ map (λ word. value (initially p.view.init word.0) p.view.log word.0) (counters_of c number)
    → IsSettled c number p.view ports values
settled c number t p ports values tied quiet all legal ordered held state =
    let few = (counters_allowed c number (counters_of c number) tied.slice.allowed refl).few in
    let counters = counters_of c number in
    let receipts = entries_of (receipts_in ports) in
    let same : totals counters (accepted_in ports) receipts ≡ totals counters (length p.view.log) p.view.log =
    sym (held-totals c number ports) ∙ held ∙ quiet-totals c number t p tied quiet in
    let handed : length (receipts_in ports) ≡ length p.view.log =
    sym (length-map (receipts_in ports) (λ (r : Receipt). r.entry)) ∙ ap (λ (u : Totals). u.handed) same in
    let each : (place : ℕ) (word : WordAddr) → slice_get counters place ≡ Some word
    → named receipts word.0 ≡ named p.view.log word.0 =
    λ place word there.
    let here : place < 8 = (let within = slice_get_within counters place word there in omega (arith, within, few)) in
    let sum : (es : List Entry) → at (sums counters es) place ≡ named es word.0 =
    λ es. at_sums counters es place here ∙ ap (λ o. option_map_or (λ w. named es w.0) o 0) there in
    sym (sum receipts) ∙ ap (λ (u : Totals). at u.counters place) same ∙ sum p.view.log in record {
      accepted = ap (λ (u : Totals). u.accepted) same;
      handed = handed;
      history = history ports p.view.log all handed;
      legal = legal;
      ordered = ordered;
      sums = each;
      state = state;
      named_are =
          state
          ∙ map-agree _ _ counters
          (λ place word there.
          value-added (initially p.view.init word.0) word.0 p.view.log
          (λ k e logged. spared counters place word e there (tied.booked.logged k e logged).spares)
          ∙ ap (λ n. (n + named p.view.log word.0) % 2 ^ 64)
          (ap (λ init. initial_value init word) tied.slice.init
          ∙ initial-here c number word (counter-here c number place word there))
          ∙ ap (λ n. (initial_value c.init word + n) % 2 ^ 64) (sym (each place word there)));
    }

-- Each counter is in a line of the slice.
pub counter-line : (c : Config) (number place : ℕ) (word : WordAddr) (v : View) → IsSliceOf c number v
    → slice_get (counters_of c number) place ≡ Some word → IsSome (local_at v.lines (line_of word).0)
counter-line c number place word v slice there =
    let counters = counters_of c number in
    let within = slice_get_within counters place word there in
    let inside =
    All-filter (is_of_slice c number) (λ (w : WordAddr). w.0 < word_count c) c.counters
    slice.allowed.counters_in_range in
    let below =
    subst (λ (w : WordAddr). w.0 < word_count c) (get_or_from_slice_get counters place word word there)
    (inside place word within) in
    subst (λ own. IsSome (local_at own (line_of word).0)) (sym slice.lines)
    (word-here c number word slice.allowed (counter-here c number place word there) below)

pub counter-line-at : (c : Config) (number : ℕ) (v : View) → IsSliceOf c number v → (words : List WordAddr) (place : ℕ)
    (d : WordAddr) → words ≡ counters_of c number → place < length words
    → IsSome (local_at v.lines (line_of (get_or words place d)).0)
counter-line-at c number v slice words place d are within =
    counter-line c number place (get_or words place d) v slice
    (ap (λ ws. slice_get ws place) (sym are) ∙ slice_get-get_or words place d within)

-- What a slice shows of a word of its own is the word's value.
pub shown-value : (v : View) (word : WordAddr) (place : Option Local) (n : ℕ) → IsSome place → ShowsLast v word place n
    → n ≡ value (initially v.init word.0) v.log word.0
shown-value v word None n there shows = absurd (cc)
shown-value v word (Some local) n there shows = shows
