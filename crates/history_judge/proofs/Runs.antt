-- The values that a word takes as the accesses of a history are performed in an order.
use Rattle.std.proofs.Common.{◌≡◌, ◌≢◌, ℕ, suc, ◌+◌, ◌^◌, ◌<◌, ◌≤◌, ◌⊎◌, List, [], ◌∷◌, ◌++◌, length, take, get_or}
use Rattle.std.proofs.Common.{Option, Some, None, sym, ap, ◌∙◌, subst, inl, inr, add-one, eqb, eq-eqb, cond}
use Rattle.std.specs.Prelude.{slice_get, option_and_then, map}
use Rattle.std.specs.Option.{option_map}
use Rattle.std.proofs.lemmas.Bool.{cases_eq, cases_lt, ne_eqb}
use Rattle.std.proofs.lemmas.List.{take_more}
use Rattle.std.proofs.lemmas.Option.{slice_get_within, slice_get-get_or, get_or_from_slice_get, slice_get-map}
use Rattle.std.proofs.lemmas.Option.{slice_get_past}
use Rattle.slice_log.specs.Log.{value, IsLegal}
use Rattle.slice_log.specs.Op.{reply_of, value_of}
use Rattle.slice_log.specs.declared.entry.Entry.{Entry}
use Rattle.slice_log.proofs.Values.{value-nil, value-perform, value-perform_other}
use Rattle.history_judge.specs.Access.{entry_of, found_by, found_in, left_by, left_in}
use Rattle.history_judge.specs.Order.{entry_at, no_access, trace_of, HasEachOnce}
use Rattle.history_judge.specs.Before.{found_at}
use Rattle.history_judge.specs.Writers.{left_at}
use Rattle.history_judge.specs.declared.access.Access.{Access}
use Rattle.history_judge.proofs.LastChange.{HasNoChange, HasLastChange, last_change}
use Rattle.history_judge.proofs.Replies.{left_by-none, left_by-some, found_from-some}

-- what the access at a place found and left, where it is known
pub found_at-some : (word : ℕ) (history : List Access) (i : ℕ) (a : Access) → slice_get history i ≡ Some a
    → found_at word history i ≡ found_in word a
found_at-some word history i a here = ap (option_and_then (found_in word)) here

pub left_at-some : (word : ℕ) (history : List Access) (i : ℕ) (a : Access) → slice_get history i ≡ Some a
    → left_at word history i ≡ left_in word a
left_at-some word history i a here = ap (option_and_then (left_in word)) here

-- an access that found or left something is one of the history
pub found_at-within : (word : ℕ) (history : List Access) (i v : ℕ) → found_at word history i ≡ Some v
    → i < length history
found_at-within word history i v found = elim (cases_lt i (length history)) [
  | inl within ↦ within
  | inr past ↦
      let none : found_at word history i ≡ None = ap (option_and_then (found_in word)) (slice_get_past history i past) in
      cc
]

pub left_at-within : (word : ℕ) (history : List Access) (i v : ℕ) → left_at word history i ≡ Some v
    → i < length history
left_at-within word history i v left = elim (cases_lt i (length history)) [
  | inl within ↦ within
  | inr past ↦
      let none : left_at word history i ≡ None = ap (option_and_then (left_in word)) (slice_get_past history i past) in
      cc
]

-- the entry of a trace at a place of the order
pub trace_of-at : (history : List Access) (order : List ℕ) (k i : ℕ) (a : Access)
    → slice_get order k ≡ Some i → slice_get history i ≡ Some a
    → slice_get (trace_of history order) k ≡ Some (entry_of i a)
trace_of-at history order k i a stands here =
    slice_get-map (entry_at history) order k ∙ ap (option_map (entry_at history)) stands
    ∙ ap (λ (x : Access). Some (entry_of i x)) (get_or_from_slice_get history i a no_access here)

-- The word's value before each place: it begins with the initial value, an access that left nothing new keeps it, each
-- other one sets it, and each finds it.
pub record IsRun (initial word : ℕ) (history : List Access) (order : List ℕ) (val : ℕ → ℕ) : Type 0 where
  pub begins : val 0 ≡ initial
  pub keeps : (k i : ℕ) → slice_get order k ≡ Some i → left_at word history i ≡ None → val (suc k) ≡ val k
  pub sets : (k i u : ℕ) → slice_get order k ≡ Some i → left_at word history i ≡ Some u → val (suc k) ≡ u
  pub finds : (k i v : ℕ) → slice_get order k ≡ Some i → found_at word history i ≡ Some v → v ≡ val k

pub value_before : (ℕ → ℕ) → ℕ → List Access → List ℕ → ℕ → ℕ
value_before initial word history order k = value (initial word) (take k (trace_of history order)) word

-- an access of another word finds and leaves nothing in this one
found_in-own : (word : ℕ) (a : Access) (v : ℕ) → found_in word a ≡ Some v → a.word.0 ≡ word
found_in-own word a v found = elim (cases_eq a.word.0 word) [
  | inl same ↦ same
  | inr other ↦
      let none : found_in word a ≡ None = ap (λ b. cond b (found_by a) None) (ne_eqb a.word.0 word other) in
      absurd (cc)
]

left_in-own : (word : ℕ) (a : Access) (v : ℕ) → left_in word a ≡ Some v → a.word.0 ≡ word
left_in-own word a v left = elim (cases_eq a.word.0 word) [
  | inl same ↦ same
  | inr other ↦
      let none : left_in word a ≡ None =
      ap (λ b. cond b (left_by a.op a.reply) None) (ne_eqb a.word.0 word other) in
      absurd (cc)
]

found_in-is : (word : ℕ) (a : Access) → a.word.0 ≡ word → found_in word a ≡ found_by a
found_in-is word a same = ap (λ b. cond b (found_by a) None) (eq-eqb a.word.0 word same)

left_in-is : (word : ℕ) (a : Access) → a.word.0 ≡ word → left_in word a ≡ left_by a.op a.reply
left_in-is word a same = ap (λ b. cond b (left_by a.op a.reply) None) (eq-eqb a.word.0 word same)

module _ (initial : ℕ → ℕ) (word : ℕ) (history : List Access) (order : List ℕ)
    (each_once : HasEachOnce (length history) order)
    (legal : IsLegal initial (trace_of history order)) where
  access : ℕ → Access
  access i = get_or history i no_access

  access-at : (k i : ℕ) → slice_get order k ≡ Some i → slice_get history i ≡ Some (access i)
  unfolding access
  access-at k i stands = slice_get-get_or history i no_access (each_once.within k i stands)

  replied : (k i : ℕ) → slice_get order k ≡ Some i → (access i).word.0 ≡ word
      → (access i).reply ≡ reply_of (access i).op (value_before initial word history order k)
  unfolding value_before
  replied k i stands same =
      subst (λ w. (access i).reply ≡ reply_of (access i).op (value (initial w) (take k (trace_of history order)) w)) same
      (legal.replies k (entry_of i (access i))
      (trace_of-at history order k i (access i) stands (access-at k i stands)))

  one_more : (k i : ℕ) → slice_get order k ≡ Some i
      → take (suc k) (trace_of history order) ≡ take k (trace_of history order) ++ entry_of i (access i) ∷ []
  one_more k i stands =
      let trace = trace_of history order in
      let e : Entry = entry_of i (access i) in
      let here : slice_get trace k ≡ Some e =
      trace_of-at history order k i (access i) stands (access-at k i stands) in
      let within : k < length trace = slice_get_within trace k e here in
      let last : get_or trace k e ≡ e = get_or_from_slice_get trace k e e here in
      ap (λ n. take n trace) (sym (add-one k)) ∙ take_more trace k e within
      ∙ ap (λ (x : Entry). take k trace ++ x ∷ []) last

  performed : (k i : ℕ) → slice_get order k ≡ Some i → (access i).word.0 ≡ word
      → value_before initial word history order (suc k)
      ≡ value_of (access i).op (value_before initial word history order k)
  unfolding value_before
  performed k i stands same =
      ap (λ (t : List Entry). value (initial word) t word) (one_more k i stands)
      ∙ value-perform (initial word) (take k (trace_of history order)) (entry_of i (access i)) word same
      (replied k i stands same)

  passed : (k i : ℕ) → slice_get order k ≡ Some i → (access i).word.0 ≢ word
      → value_before initial word history order (suc k) ≡ value_before initial word history order k
  unfolding value_before
  passed k i stands other =
      ap (λ (t : List Entry). value (initial word) t word) (one_more k i stands)
      ∙ value-perform_other (initial word) (take k (trace_of history order)) (entry_of i (access i)) word other

  kept : (k i : ℕ) → slice_get order k ≡ Some i → left_in word (access i) ≡ None
      → value_before initial word history order (suc k) ≡ value_before initial word history order k
  kept k i stands left = elim (cases_eq (access i).word.0 word) [
    | inl same ↦
        performed k i stands same
        ∙ left_by-none (access i).op (access i).reply _ (replied k i stands same)
        (sym (left_in-is word (access i) same) ∙ left)
    | inr other ↦ passed k i stands other
  ]

  set_to : (k i u : ℕ) → slice_get order k ≡ Some i → left_in word (access i) ≡ Some u
      → value_before initial word history order (suc k) ≡ u
  set_to k i u stands left =
      let same = left_in-own word (access i) u left in
      performed k i stands same
      ∙ left_by-some (access i).op (access i).reply _ u (replied k i stands same)
      (sym (left_in-is word (access i) same) ∙ left)

  found_as : (k i v : ℕ) → slice_get order k ≡ Some i → found_in word (access i) ≡ Some v
      → v ≡ value_before initial word history order k
  found_as k i v stands found =
      let same = found_in-own word (access i) v found in
      found_from-some (access i).op (access i).reply _ v (replied k i stands same)
      (sym (found_in-is word (access i) same) ∙ found)

  begun : initial word < 2 ^ 64 → value_before initial word history order 0 ≡ initial word
  unfolding value_before
  begun small = value-nil (initial word) word small

  pub run_of : initial word < 2 ^ 64
      → IsRun (initial word) word history order (value_before initial word history order)
  run_of small = record {
    begins = begun small;
    keeps = λ k i stands left.
        kept k i stands (sym (left_at-some word history i (access i) (access-at k i stands)) ∙ left);
    sets = λ k i u stands left.
        set_to k i u stands (sym (left_at-some word history i (access i) (access-at k i stands)) ∙ left);
    finds = λ k i v stands found.
        found_as k i v stands (sym (found_at-some word history i (access i) (access-at k i stands)) ∙ found);
  }

-- what the access at a place of the order left
pub left_then : ℕ → List Access → List ℕ → ℕ → Option ℕ
left_then word history order k = option_and_then (left_at word history) (slice_get order k)

pub left_then-at : (word : ℕ) (history : List Access) (order : List ℕ) (k i : ℕ) → slice_get order k ≡ Some i
    → left_then word history order k ≡ left_at word history i
unfolding left_then
left_then-at word history order k i stands = ap (option_and_then (left_at word history)) stands

-- which access of a run changed the word last before a place
pub changed_last : (initial word : ℕ) (history : List Access) (order : List ℕ) (val : ℕ → ℕ)
    → IsRun initial word history order val
    → (k : ℕ) → k ≤ length order
    → HasNoChange val (left_then word history order) k ⊎ HasLastChange val (left_then word history order) k
changed_last initial word history order val run =
    last_change (length order) val (left_then word history order)
    (λ k within left.
    let stands = slice_get-get_or order k 0 within in
    run.keeps k (get_or order k 0) stands (sym (left_then-at word history order k (get_or order k 0) stands) ∙ left))
    (λ k u within left.
    let stands = slice_get-get_or order k 0 within in
    run.sets k (get_or order k 0) u stands (sym (left_then-at word history order k (get_or order k 0) stands) ∙ left))
