-- What an order keeps, as it is read.
use Rattle.std.proofs.Common.{◌≡◌, ◌≢◌, ℕ, ◌+◌, ◌^◌, ◌<◌, ◌≤◌, ◌⊎◌, ◌↔◌, List, [], ◌∷◌, ◌++◌, length, take, get_or}
use Rattle.std.proofs.Common.{Option, Some, None, max, refl, sym, ap, ◌∙◌, inl, inr, arith, subst}
use Rattle.std.proofs.Math.ListN.{set, replicate}
use Rattle.std.specs.Prelude.{slice_get, map, unwrap_or}
use Rattle.std.proofs.lemmas.Bool.{cases_eq, cases_lt, cases_order}
use Rattle.std.proofs.lemmas.List.{map_more, take_all, get_or-set_same, get_or-set_other, length-map, take-map}
use Rattle.std.proofs.lemmas.List.{length-replicate, get_or-replicate, get_or_past, length-set}
use Rattle.std.proofs.lemmas.Option.{slice_get_within, slice_get-get_or, get_or_from_slice_get, same_Some}
use Rattle.address_map.specs.declared.address.CoreId.{CoreId}
use Rattle.slice_log.specs.Log.{value, IsLegal, IsOrdered}
use Rattle.slice_log.specs.Op.{reply_of, value_of}
use Rattle.slice_log.specs.declared.entry.Entry.{Entry}
use Rattle.slice_log.proofs.Values.{value-nil, value-perform, value-perform_other}
use Rattle.slice_log.proofs.Pushes.{IsLegal-nil, IsLegal-push}
use Rattle.history_judge.specs.Access.{entry_of}
use Rattle.history_judge.specs.Order.{entry_at, no_access, trace_of, HasEachOnce, IsOrderOf, KeepsCores, KeepsIntervals}
use Rattle.history_judge.specs.declared.access.Access.{Access}
use Rattle.history_judge.proofs.Runs.{trace_of-at}

-- an order that has each access once names none past the last
pub not_outside : (history : List Access) (order : List ℕ) (k : ℕ) → k < length order
    → None ≡ slice_get history (get_or order k 0) → HasEachOnce (length history) order → ⊥
not_outside history order k within none each =
    let inside = each.within k (get_or order k 0) (slice_get-get_or order k 0 within) in
    let some : slice_get history (get_or order k 0) ≡ Some (get_or history (get_or order k 0) no_access) =
    slice_get-get_or history (get_or order k 0) no_access inside in
    cc

pub max_is_one : (a b n : ℕ) → n ≡ max a b → (n ≡ a) ⊎ (n ≡ b)
max_is_one a b n is = elim (cases_order a b) [
  | inl same ↦ inl (omega arith)
  | inr (inl under) ↦ inr (omega arith)
  | inr (inr over) ↦ inl (omega arith)
]

-- the trace of one more access
pub trace_of-more : (history : List Access) (order : List ℕ) (k i : ℕ) (a : Access)
    → slice_get order k ≡ Some i → slice_get history i ≡ Some a
    → trace_of history (take (k + 1) order) ≡ trace_of history (take k order) ++ entry_of i a ∷ []
trace_of-more history order k i a stands here =
    let within : k < length order = slice_get_within order k i stands in
    let read : get_or order k 0 ≡ i = get_or_from_slice_get order k i 0 stands in
    let found : get_or history i no_access ≡ a = get_or_from_slice_get history i a no_access here in
    map_more (entry_at history) order k 0 within
    ∙ ap (λ n. trace_of history (take k order) ++ entry_at history n ∷ []) read
    ∙ ap (λ (x : Access). trace_of history (take k order) ++ entry_of i x ∷ []) found

-- ---- replies

-- The accesses that were read are explained. The map has the value of each word of which one was read, and no entry
-- changed another.
pub record IsExplained (initial : ℕ → ℕ) (history : List Access) (order : List ℕ) (k : ℕ) (now : ℕ → Option ℕ)
    : Type 0 where
  pub legal : IsLegal initial (trace_of history (take k order))
  pub known : (w v : ℕ) → now w ≡ Some v → v ≡ value (initial w) (trace_of history (take k order)) w
  pub fresh : (w : ℕ) → now w ≡ None
      → value (initial w) (trace_of history (take k order)) w ≡ value (initial w) [] w

pub explained-none : (initial : ℕ → ℕ) (history : List Access) (order : List ℕ) (now : ℕ → Option ℕ)
    → ((w : ℕ) → now w ≡ None) → IsExplained initial history order 0 now
explained-none initial history order now none = record {
  legal = IsLegal-nil initial;
  known = λ w v some. let no : now w ≡ None = none w in absurd (cc);
  fresh = λ w no. refl;
}

-- the value of a word: what the map has, or else the initial one
pub value_now : (initial : ℕ → ℕ) (history : List Access) (order : List ℕ) (k : ℕ) (now : ℕ → Option ℕ) (w v : ℕ)
    → v < 2 ^ 64 → v ≡ unwrap_or (now w) (initial w) → IsExplained initial history order k now
    → v ≡ value (initial w) (trace_of history (take k order)) w
value_now initial history order k now w v small is so_far = from (now w) refl is
  where
    from : (o : Option ℕ) → now w ≡ o → v ≡ unwrap_or o (initial w)
        → v ≡ value (initial w) (trace_of history (take k order)) w
    from None none same =
        same ∙ sym (value-nil (initial w) w (subst (λ n. n < 2 ^ 64) same small)) ∙ sym (so_far.fresh w none)
    from (Some u) some same = same ∙ so_far.known w u some

module _ (initial : ℕ → ℕ) (history : List Access) (order : List ℕ) (k i was next : ℕ) (a : Access)
    (now then : ℕ → Option ℕ)
    (stands : slice_get order k ≡ Some i) (here : slice_get history i ≡ Some a)
    (so_far : IsExplained initial history order k now)
    (is : was ≡ value (initial a.word.0) (trace_of history (take k order)) a.word.0)
    (reply : a.reply ≡ reply_of a.op was) (left : next ≡ value_of a.op was)
    (sets : then a.word.0 ≡ Some next) (others : (w : ℕ) → w ≢ a.word.0 → then w ≡ now w) where
  log : List Entry
  log = trace_of history (take k order)

  more : List Entry
  more = trace_of history (take (k + 1) order)

  more-is : more ≡ log ++ entry_of i a ∷ []
  unfolding more log
  more-is = trace_of-more history order k i a stands here

  replied : a.reply ≡ reply_of a.op (value (initial a.word.0) log a.word.0)
  unfolding log
  replied = reply ∙ ap (reply_of a.op) is

  is_log : was ≡ value (initial a.word.0) log a.word.0
  unfolding log
  is_log = is

  own : value (initial a.word.0) more a.word.0 ≡ next
  own =
      ap (λ (t : List Entry). value (initial a.word.0) t a.word.0) more-is
      ∙ value-perform (initial a.word.0) log (entry_of i a) a.word.0 refl replied
      ∙ ap (value_of a.op) (sym is_log) ∙ sym left

  other : (w : ℕ) → w ≢ a.word.0 → value (initial w) more w ≡ value (initial w) log w
  other w apart =
      ap (λ (t : List Entry). value (initial w) t w) more-is
      ∙ value-perform_other (initial w) log (entry_of i a) w (λ same. apart (sym same))

  known_more : (w v : ℕ) → then w ≡ Some v → v ≡ value (initial w) more w
  unfolding log
  known_more w v some = elim (cases_eq w a.word.0) [
    | inl same ↦
        let v_is : v ≡ next = same_Some v next (sym some ∙ ap then same ∙ sets) in
        v_is ∙ sym own ∙ ap (λ n. value (initial n) more n) (sym same)
    | inr apart ↦ so_far.known w v (sym (others w apart) ∙ some) ∙ sym (other w apart)
  ]

  fresh_more : (w : ℕ) → then w ≡ None → value (initial w) more w ≡ value (initial w) [] w
  unfolding log
  fresh_more w none = elim (cases_eq w a.word.0) [
    | inl same ↦ let set : then w ≡ Some next = ap then same ∙ sets in absurd (cc)
    | inr apart ↦ other w apart ∙ so_far.fresh w (sym (others w apart) ∙ none)
  ]

  pub explained-more : IsExplained initial history order (k + 1) then
  unfolding more log
  explained-more = record {
    legal =
        rw (trace_of-more history order k i a stands here)
        (IsLegal-push initial (trace_of history (take k order)) (entry_of i a) so_far.legal replied);
    known = known_more;
    fresh = fresh_more;
  }

pub explained-all : (initial : ℕ → ℕ) (history : List Access) (order : List ℕ) (k : ℕ) (now : ℕ → Option ℕ)
    → length order ≤ k → IsExplained initial history order k now → IsLegal initial (trace_of history order)
explained-all initial history order k now all so_far =
    let whole = take_all k order all in rw whole at so_far.legal

-- an order with another reply isn't legal
pub unexplained : (initial : ℕ → ℕ) (history : List Access) (order : List ℕ) (k i was : ℕ) (a : Access)
    → slice_get order k ≡ Some i → slice_get history i ≡ Some a → a.reply ≢ reply_of a.op was
    → was ≡ value (initial a.word.0) (trace_of history (take k order)) a.word.0
    → IsLegal initial (trace_of history order) → ⊥
unexplained initial history order k i was a stands here other is legal =
    let asked = legal.replies k (entry_of i a) (trace_of-at history order k i a stands here) in
    other
    (asked
    ∙ ap (λ (t : List Entry). reply_of a.op (value (initial a.word.0) t a.word.0)) (take-map (entry_at history) k order)
    ∙ ap (reply_of a.op) (sym is))

-- ---- cores

-- the bound of a core was reached by this access
pub record IsReached (history : List Access) (order : List ℕ) (k : ℕ) (bounds : List ℕ) (core : ℕ) : Type 0 where
  pub place : ℕ
  pub number : ℕ
  pub access : Access
  pub before : place < k
  pub stands : slice_get order place ≡ Some number
  pub here : slice_get history number ≡ Some access
  pub of_core : access.core.0 ≡ core
  pub bound : get_or bounds core 0 ≡ number + 1

pub record IsBounded (history : List Access) (order : List ℕ) (k : ℕ) (bounds : List ℕ) : Type 0 where
  pub size : length bounds ≡ 256
  pub within : (j i : ℕ) → j < k → slice_get order j ≡ Some i → i < length history
  pub kept : (j l a b : ℕ) (d e : Access) → j < l → l < k → slice_get order j ≡ Some a → slice_get order l ≡ Some b
      → slice_get history a ≡ Some d → slice_get history b ≡ Some e → d.core.0 ≡ e.core.0 → a < b
  pub below : (j i : ℕ) (a : Access) → j < k → slice_get order j ≡ Some i → slice_get history i ≡ Some a
      → i < get_or bounds a.core.0 0
  pub reached : (core : ℕ) → (get_or bounds core 0 ≡ 0) ⊎ IsReached history order k bounds core

pub bounded-none : (history : List Access) (order : List ℕ) (bounds : List ℕ) → length bounds ≡ 256
    → ((core : ℕ) → get_or bounds core 0 ≡ 0) → IsBounded history order 0 bounds
bounded-none history order bounds size zero = record {
  size = size;
  within = λ j i none. absurd (omega arith);
  kept = λ j l a b d e first none. absurd (omega arith);
  below = λ j i a none. absurd (omega arith);
  reached = λ core. inl (zero core);
}

zero_at : (cores core : ℕ) → get_or (replicate {A = ℕ} cores 0) core 0 ≡ 0
zero_at cores core = elim (cases_lt core cores) [
  | inl within ↦ get_or-replicate cores core 0 0 within
  | inr past ↦ get_or_past (replicate cores 0) core 0 (rw (length-replicate {A = ℕ} cores 0) past)
]

pub no_bounds : (history : List Access) (order bounds : List ℕ) (cores : ℕ) → bounds ≡ replicate cores 0
    → cores ≡ 256 → IsBounded history order 0 bounds
no_bounds history order bounds cores is count =
    bounded-none history order bounds (ap length is ∙ length-replicate cores 0 ∙ count)
    (λ core. ap (λ (xs : List ℕ). get_or xs core 0) is ∙ zero_at cores core)

module _ (history : List Access) (order bounds : List ℕ) (k i : ℕ) (a : Access) (stands : slice_get order k ≡ Some i)
    (here : slice_get history i ≡ Some a) (core : a.core.0 < 256) (above : get_or bounds a.core.0 0 ≤ i)
    (so_far : IsBounded history order k bounds) where
  last_one : (j n : ℕ) → j ≡ k → slice_get order j ≡ Some n → n ≡ i
  last_one j n last found = same_Some n i (sym found ∙ ap (λ m. slice_get order m) last ∙ stands)

  within_more : (j n : ℕ) → j < k + 1 → slice_get order j ≡ Some n → n < length history
  within_more j n under found = elim (cases_order j k) [
    | inl last ↦
        let inside : i < length history = slice_get_within history i a here in
        let same : n ≡ i = last_one j n last found in
        omega arith
    | inr (inl before) ↦ so_far.within j n before found
    | inr (inr over) ↦ absurd (omega arith)
  ]

  bound_here : get_or (set bounds a.core.0 (i + 1)) a.core.0 0 ≡ i + 1
  bound_here =
      let size : length bounds ≡ 256 = so_far.size in
      get_or-set_same bounds a.core.0 (i + 1) 0 (omega arith)

  below_last : (n : ℕ) (b : Access) → n ≡ i → slice_get history n ≡ Some b
      → n < get_or (set bounds a.core.0 (i + 1)) b.core.0 0
  below_last n b same there =
      let one : b ≡ a = same_Some b a (sym there ∙ ap (λ m. slice_get history m) same ∙ here) in
      let bound : get_or (set bounds a.core.0 (i + 1)) b.core.0 0 ≡ i + 1 =
      ap (λ (x : Access). get_or (set bounds a.core.0 (i + 1)) x.core.0 0) one ∙ bound_here in
      omega arith

  below_before : (n : ℕ) (b : Access) → n < get_or bounds b.core.0 0
      → n < get_or (set bounds a.core.0 (i + 1)) b.core.0 0
  below_before n b was = elim (cases_eq b.core.0 a.core.0) [
    | inl same ↦
        let now : get_or (set bounds a.core.0 (i + 1)) b.core.0 0 ≡ i + 1 =
        ap (λ m. get_or (set bounds a.core.0 (i + 1)) m 0) same ∙ bound_here in
        let old : get_or bounds b.core.0 0 ≡ get_or bounds a.core.0 0 = ap (λ m. get_or bounds m 0) same in
        omega arith
    | inr other ↦ rw (get_or-set_other bounds a.core.0 b.core.0 (i + 1) 0 other) was
  ]

  below_more : (j n : ℕ) (b : Access) → j < k + 1 → slice_get order j ≡ Some n → slice_get history n ≡ Some b
      → n < get_or (set bounds a.core.0 (i + 1)) b.core.0 0
  below_more j n b under found there = elim (cases_order j k) [
    | inl last ↦ below_last n b (last_one j n last found) there
    | inr (inl before) ↦ below_before n b (so_far.below j n b before found there)
    | inr (inr over) ↦ absurd (omega arith)
  ]

  reached_before : (core : ℕ) → core ≢ a.core.0
      → (get_or bounds core 0 ≡ 0) ⊎ IsReached history order k bounds core
      → (get_or (set bounds a.core.0 (i + 1)) core 0 ≡ 0)
      ⊎ IsReached history order (k + 1) (set bounds a.core.0 (i + 1)) core
  reached_before core other (inl zero) = inl (get_or-set_other bounds a.core.0 core (i + 1) 0 other ∙ zero)
  reached_before core other (inr was) = inr (record {
    place = was.place;
    number = was.number;
    access = was.access;
    before = let before : was.place < k = was.before in omega arith;
    stands = was.stands;
    here = was.here;
    of_core = was.of_core;
    bound = get_or-set_other bounds a.core.0 core (i + 1) 0 other ∙ was.bound;
  })

  reached_more : (core : ℕ) → (get_or (set bounds a.core.0 (i + 1)) core 0 ≡ 0)
      ⊎ IsReached history order (k + 1) (set bounds a.core.0 (i + 1)) core
  reached_more core = elim (cases_eq core a.core.0) [
    | inl same ↦ inr (record {
      place = k;
      number = i;
      access = a;
      before = omega arith;
      stands = stands;
      here = here;
      of_core = sym same;
      bound = ap (λ m. get_or (set bounds a.core.0 (i + 1)) m 0) same ∙ bound_here;
    })
    | inr other ↦ reached_before core other (so_far.reached core)
  ]

  cores_more : (j l m n : ℕ) (d e : Access) → j < l → l < k + 1 → slice_get order j ≡ Some m → slice_get order l ≡ Some n
      → slice_get history m ≡ Some d → slice_get history n ≡ Some e → d.core.0 ≡ e.core.0 → m < n
  cores_more j l m n d e first under at_first at_last one two same = elim (cases_order l k) [
    | inl last ↦
        let n_is : n ≡ i = last_one l n last at_last in
        let e_is : e ≡ a = same_Some e a (sym two ∙ ap (λ x. slice_get history x) n_is ∙ here) in
        let less : m < get_or bounds d.core.0 0 = so_far.below j m d (omega arith) at_first one in
        let core_is : d.core.0 ≡ a.core.0 = same ∙ ap (λ (x : Access). x.core.0) e_is in
        let bound : get_or bounds d.core.0 0 ≡ get_or bounds a.core.0 0 = ap (λ x. get_or bounds x 0) core_is in
        omega arith
    | inr (inl before) ↦ so_far.kept j l m n d e first before at_first at_last one two same
    | inr (inr over) ↦ absurd (omega arith)
  ]

  pub bounded-more : IsBounded history order (k + 1) (set bounds a.core.0 (i + 1))
  bounded-more = record {
    size = length-set bounds a.core.0 (i + 1) ∙ so_far.size;
    within = within_more;
    kept = cores_more;
    below = below_more;
    reached = reached_more;
  }

pub bounded-all : (history : List Access) (order bounds : List ℕ) (k : ℕ) → length order ≤ k
    → IsBounded history order k bounds → KeepsCores history order
bounded-all history order bounds k all so_far = λ j l a b d e first at_first at_last.
    let inside : l < length order = slice_get_within order l b at_last in
    so_far.kept j l a b d e first (omega arith) at_first at_last

-- the access that an entry of a trace performs
record IsEntryOf (history : List Access) (order : List ℕ) (k : ℕ) (e : Entry) : Type 0 where
  number : ℕ
  access : Access
  stands : slice_get order k ≡ Some number
  here : slice_get history number ≡ Some access
  is : e ≡ entry_of number access

entry_from : (history : List Access) (order : List ℕ) → HasEachOnce (length history) order → (k : ℕ) (e : Entry)
    → slice_get (trace_of history order) k ≡ Some e → IsEntryOf history order k e
entry_from history order each k e at_place =
    let within : k < length (trace_of history order) = slice_get_within (trace_of history order) k e at_place in
    let size : length (trace_of history order) ≡ length order = length-map order (entry_at history) in
    let inside : k < length order = omega arith in
    let stands = slice_get-get_or order k 0 inside in
    let here = slice_get-get_or history (get_or order k 0) no_access (each.within k (get_or order k 0) stands) in
    record {
      number = get_or order k 0;
      access = get_or history (get_or order k 0) no_access;
      stands = stands;
      here = here;
      is =
          same_Some e (entry_of (get_or order k 0) (get_or history (get_or order k 0) no_access))
          (sym at_place
          ∙ trace_of-at history order k (get_or order k 0) (get_or history (get_or order k 0) no_access) stands here);
    }

-- an order in which an access is below its core's bound doesn't keep the core's
pub not_ordered : (history : List Access) (order bounds : List ℕ) (k i : ℕ) (a : Access) → slice_get order k ≡ Some i
    → slice_get history i ≡ Some a → i < get_or bounds a.core.0 0 → IsBounded history order k bounds
    → KeepsCores history order → ⊥
not_ordered history order bounds k i a stands here under so_far keeps = elim (so_far.reached a.core.0) [
  | inl zero ↦ omega arith
  | inr was ↦
      let above : was.number < i =
      keeps was.place k was.number i was.access a was.before was.stands stands was.here here was.of_core in
      let bound : get_or bounds a.core.0 0 ≡ was.number + 1 = was.bound in
      omega arith
]

-- a trace whose entries name their accesses by their places is ordered, where each core's order is kept
pub ordered_of : (history : List Access) (order : List ℕ) → HasEachOnce (length history) order
    → KeepsCores history order → IsOrdered (trace_of history order)
ordered_of history order each keeps = record {
  core_order = λ j k d e first at_first at_last same line.
      let one = entry_from history order each j d at_first in
      let two = entry_from history order each k e at_last in
      let less : one.number < two.number =
      keeps j k one.number two.number one.access two.access first one.stands two.stands one.here two.here
      (ap (λ (x : Entry). x.core.0) (sym one.is) ∙ ap (λ (c : CoreId). c.0) same ∙ ap (λ (x : Entry). x.core.0) two.is) in
      subst (λ (x : Entry). x.seq < e.seq) (sym one.is)
      (subst (λ (x : Entry). one.number < x.seq) (sym two.is) less);
  since = λ k e here.
      let it = entry_from history order each k e here in
      subst (λ (x : Entry). x.since ≤ k) (sym it.is) (omega arith);
}

-- ---- intervals

-- the latest begin is that of this access
pub record IsBegun (history : List Access) (order : List ℕ) (k latest : ℕ) : Type 0 where
  pub place : ℕ
  pub number : ℕ
  pub access : Access
  pub before : place < k
  pub stands : slice_get order place ≡ Some number
  pub here : slice_get history number ≡ Some access
  pub begin : access.begin ≡ latest

pub record IsKept (history : List Access) (order : List ℕ) (k latest : ℕ) : Type 0 where
  pub kept : (j m a b : ℕ) (d e : Access) → j < m → m < k → slice_get order j ≡ Some a → slice_get order m ≡ Some b
      → slice_get history a ≡ Some d → slice_get history b ≡ Some e → d.begin ≤ e.end
  pub below : (j a : ℕ) (d : Access) → j < k → slice_get order j ≡ Some a → slice_get history a ≡ Some d
      → d.begin ≤ latest
  pub reached : (latest ≡ 0) ⊎ IsBegun history order k latest

pub kept-none : (history : List Access) (order : List ℕ) → IsKept history order 0 0
kept-none history order = record {
  kept = λ j m a b d e before none. absurd (omega arith);
  below = λ j a d none. absurd (omega arith);
  reached = inl refl;
}

module _ (history : List Access) (order : List ℕ) (k i latest next : ℕ) (x : Access)
    (stands : slice_get order k ≡ Some i) (here : slice_get history i ≡ Some x) (ended : latest ≤ x.end)
    (later : latest ≤ next) (begun : x.begin ≤ next) (which : (next ≡ latest) ⊎ (next ≡ x.begin)) (so_far : IsKept history order k latest) where
  the_last : (j a : ℕ) (d : Access) → j ≡ k → slice_get order j ≡ Some a → slice_get history a ≡ Some d → d ≡ x
  the_last j a d last found there =
      let same : a ≡ i = same_Some a i (sym found ∙ ap (λ m. slice_get order m) last ∙ stands) in
      same_Some d x (sym there ∙ ap (λ m. slice_get history m) same ∙ here)

  kept_more : (j m a b : ℕ) (d e : Access) → j < m → m < k + 1 → slice_get order j ≡ Some a
      → slice_get order m ≡ Some b → slice_get history a ≡ Some d → slice_get history b ≡ Some e → d.begin ≤ e.end
  kept_more j m a b d e before under first second one other = elim (cases_order m k) [
    | inl last ↦
        let early : j < k = omega arith in
        let bound : d.begin ≤ latest = so_far.below j a d early first one in
        let same : e.end ≡ x.end = ap (λ (y : Access). y.end) (the_last m b e last second other) in
        omega arith
    | inr (inl inside) ↦ so_far.kept j m a b d e before inside first second one other
    | inr (inr over) ↦ absurd (omega arith)
  ]

  begun_more : (j a : ℕ) (d : Access) → j < k + 1 → slice_get order j ≡ Some a → slice_get history a ≡ Some d
      → d.begin ≤ next
  begun_more j a d under found there = elim (cases_order j k) [
    | inl last ↦
        let same : d.begin ≡ x.begin = ap (λ (y : Access). y.begin) (the_last j a d last found there) in
        omega arith
    | inr (inl before) ↦
        let bound : d.begin ≤ latest = so_far.below j a d before found there in
        omega arith
    | inr (inr over) ↦ absurd (omega arith)
  ]

  reached_before_it : next ≡ latest → (latest ≡ 0) ⊎ IsBegun history order k latest
      → (next ≡ 0) ⊎ IsBegun history order (k + 1) next
  reached_before_it same (inl zero) = inl (same ∙ zero)
  reached_before_it same (inr was) = inr (record {
    place = was.place;
    number = was.number;
    access = was.access;
    before = let before : was.place < k = was.before in omega arith;
    stands = was.stands;
    here = was.here;
    begin = was.begin ∙ sym same;
  })

  latest_reached : (next ≡ 0) ⊎ IsBegun history order (k + 1) next
  latest_reached = elim which [
    | inl same ↦ reached_before_it same so_far.reached
    | inr it ↦ inr (record {
      place = k;
      number = i;
      access = x;
      before = omega arith;
      stands = stands;
      here = here;
      begin = sym it;
    })
  ]

  pub kept-more : IsKept history order (k + 1) next
  kept-more = record { kept = kept_more; below = begun_more; reached = latest_reached }

pub kept-all : (history : List Access) (order : List ℕ) (k latest : ℕ) → length order ≤ k
    → IsKept history order k latest → KeepsIntervals history order
kept-all history order k latest all so_far = λ j m a b d e before first second one other.
    let within : m < length order = slice_get_within order m b second in
    so_far.kept j m a b d e before (omega arith) first second one other

-- an order in which an access ended before the latest begin doesn't keep intervals
pub not_kept : (history : List Access) (order : List ℕ) (k i latest : ℕ) (x : Access) → slice_get order k ≡ Some i
    → slice_get history i ≡ Some x → x.end < latest → IsKept history order k latest
    → KeepsIntervals history order → ⊥
not_kept history order k i latest x stands here early so_far keeps =
    elim so_far.reached [
      | inl zero ↦ omega arith
      | inr was ↦
          let kept : was.access.begin ≤ x.end =
          keeps was.place k was.number i was.access x was.before was.stands stands was.here here in
          let begin : was.access.begin ≡ latest = was.begin in
          omega arith
    ]

-- an order that keeps all else is one where each reply is explained
pub is_order_of : (initial : ℕ → ℕ) (history : List Access) (order : List ℕ) (Yes : Type 0)
    → HasEachOnce (length history) order → KeepsCores history order → KeepsIntervals history order
    → (Yes ↔ IsLegal initial (trace_of history order)) → Yes ↔ IsOrderOf initial history order
is_order_of initial history order Yes each cores intervals legal = (
  λ yes. record {
    each_once = each;
    legal = legal.0 yes;
    cores = cores;
    ordered = ordered_of history order each cores;
    intervals = intervals;
  },
  λ is. legal.1 is.legal,
)
