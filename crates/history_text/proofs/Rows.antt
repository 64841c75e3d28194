-- The history of each word or line, as lines are added; and their orders, one after another.
use Rattle.std.proofs.Common.{◌≡◌, ◌≢◌, ℕ, ◌+◌, ◌<◌, ◌≤◌, Bool, true, false, cond, eqb, eq-eqb, List, [], ◌∷◌, ◌++◌, length}
use Rattle.std.proofs.Common.{zero, suc, refl, sym, ap, ◌∙◌, subst, arith, inl, inr, length-append, append-nil, filter_map}
use Rattle.std.specs.Prelude.{slice_get, Option, Some, None, Vec}
use Rattle.std.specs.declared.alloc.Global.{Global}
use Rattle.std.proofs.lemmas.Bool.{cases_eq, cases_lt, cases_order, ne_eqb}
use Rattle.std.proofs.lemmas.List.Elements.{filter_map-append}
use Rattle.std.proofs.lemmas.Option.{slice_get_past, slice_get_within}
use Rattle.slice_log.specs.Log.{initially}
use Rattle.history_judge.specs.Order.{HasNoOrder, IsOrderOf}
use Rattle.history_judge.specs.declared.access.Access.{Access}
use Rattle.history_text.specs.Histories.{AreTold, access_on, accesses_at, accesses_in, accesses_of, given_in, init_on}
use Rattle.history_text.specs.Histories.{inits_at, inits_in, row_of, value_in}
use Rattle.history_text.specs.Judged.{IsVerdictOn, order_of}
use Rattle.history_text.specs.declared.extent.Extent.{Extent}
use Rattle.history_text.specs.declared.extent.Extent.TheVariants as extents
use Rattle.history_text.specs.declared.histories.Histories.{Histories}
use Rattle.history_text.specs.declared.histories.History.{History}
use Rattle.history_text.specs.declared.history_line.HistoryLine.{HistoryLine}
use Rattle.history_text.specs.declared.history_line.HistoryLine.TheVariants as history_lines
use Rattle.history_text.specs.declared.verdict.Verdict.{Verdict}
use Rattle.history_text.specs.declared.verdict.Verdict.TheVariants as verdicts
use Rattle.address_map.specs.declared.address.WordAddr.{WordAddr}

-- ---- one more line

-- what one more line adds that says this, or nothing
one_more : {X : Type 0} (says : HistoryLine → Option X) (told : List HistoryLine) (line : HistoryLine) (b : Bool) (x : X)
    → says line ≡ cond b (Some x) None
    → filter_map says (told ++ line ∷ []) ≡ cond b (filter_map says told ++ x ∷ []) (filter_map says told)
one_more {X} says told line b x is = filter_map-append says told (line ∷ []) ∙ by b is
  where
    by : (c : Bool) → says line ≡ cond c (Some x) None
        → filter_map says told ++ filter_map says (line ∷ [])
        ≡ cond c (filter_map says told ++ x ∷ []) (filter_map says told)
    by true some = rw some refl
    by false none = rw none (append-nil (filter_map says told))

nothing_more : {X : Type 0} (says : HistoryLine → Option X) (told : List HistoryLine) (line : HistoryLine)
    → says line ≡ None → filter_map says (told ++ line ∷ []) ≡ filter_map says told
nothing_more says told line none =
    filter_map-append says told (line ∷ []) ∙ rw none (append-nil (filter_map says told))

pub told_init : (old now : Histories) (word : WordAddr) (value : ℕ)
    → ((r : ℕ) → inits_at now r
    ≡ cond (eqb (row_of old.extent word.0) r) (inits_at old r ++ (word, value) ∷ []) (inits_at old r))
    → ((r : ℕ) → accesses_at now r ≡ accesses_at old r) → now.extent ≡ old.extent
    → (told : List HistoryLine) → AreTold old told → AreTold now (told ++ history_lines.Init word value ∷ [])
told_init old now word value inits accesses same told are = rw same (record {
  inits = λ r.
      let line : HistoryLine = history_lines.Init word value in
      let pair : WordAddr × ℕ = (word, value) in
      inits r
      ∙ ap (λ (list : List (WordAddr × ℕ)). cond (eqb (row_of old.extent word.0) r) (list ++ pair ∷ []) list) (are.inits r)
      ∙ sym (one_more (init_on old.extent r) told line (eqb (row_of old.extent word.0) r) pair refl);
  accesses = λ r.
      accesses r ∙ are.accesses r
      ∙ sym (nothing_more (access_on old.extent r) told (history_lines.Init word value) refl);
})

pub told_access : (old now : Histories) (a : Access)
    → ((r : ℕ) → inits_at now r ≡ inits_at old r)
    → ((r : ℕ) → accesses_at now r
    ≡ cond (eqb (row_of old.extent a.word.0) r) (accesses_at old r ++ a ∷ []) (accesses_at old r))
    → now.extent ≡ old.extent
    → (told : List HistoryLine) → AreTold old told → AreTold now (told ++ history_lines.Access a ∷ [])
told_access old now a inits accesses same told are = rw same (record {
  inits = λ r. inits r ∙ are.inits r ∙ sym (nothing_more (init_on old.extent r) told (history_lines.Access a) refl);
  accesses = λ r.
      accesses r
      ∙ ap (λ (list : List Access). cond (eqb (row_of old.extent a.word.0) r) (list ++ a ∷ []) list) (are.accesses r)
      ∙ sym (one_more (access_on old.extent r) told (history_lines.Access a) (eqb (row_of old.extent a.word.0) r) a refl);
})

-- ---- the value that a word is given

-- a value of another word in front doesn't matter
value_behind : (b : Bool) (word : WordAddr) (value w : ℕ) (rest : List (WordAddr × ℕ)) → word.0 ≢ w
    → value_in (cond b ((word, value) ∷ rest) rest) w ≡ value_in rest w
value_behind true word value w rest other = rw (ne_eqb word.0 w other) refl
value_behind false word value w rest other = refl

value_first : (word : WordAddr) (value w : ℕ) (rest : List (WordAddr × ℕ)) → word.0 ≡ w
    → value_in ((word, value) ∷ rest) w ≡ Some value
value_first word value w rest same = rw (eq-eqb word.0 w same) refl

inits_behind : (extent : Extent) (r : ℕ) (word : WordAddr) (value : ℕ) (told : List HistoryLine)
    → inits_in extent r (history_lines.Init word value ∷ told)
    ≡ cond (eqb (row_of extent word.0) r) ((word, value) ∷ inits_in extent r told) (inits_in extent r told)
inits_behind extent r word value told = by (eqb (row_of extent word.0) r) refl
  where
    by : (b : Bool) → eqb (row_of extent word.0) r ≡ b
        → inits_in extent r (history_lines.Init word value ∷ told)
        ≡ cond b ((word, value) ∷ inits_in extent r told) (inits_in extent r told)
    by true is = rw is refl
    by false is = rw is refl

-- a word's value is the same among those of its line
pub same_value : (extent : Extent) (w : ℕ) (told : List HistoryLine)
    → value_in (inits_in extent (row_of extent w) told) w ≡ given_in w told
same_value extent w [] = refl
same_value extent w (history_lines.Access a ∷ told) = same_value extent w told
same_value extent w (history_lines.Init word value ∷ told) =
    let r = row_of extent w in
    let here = λ (x : Extent) (s : ℕ). ap (λ (list : List (WordAddr × ℕ)). value_in list w) (inits_behind x s word value told) in
    elim (cases_eq word.0 w) [
      | inl same ↦
          let own : eqb (row_of extent word.0) r ≡ true =
          eq-eqb (row_of extent word.0) r (ap (row_of extent) same) in
          let its : eqb word.0 w ≡ true = eq-eqb word.0 w same in
          here extent r
          ∙ ap (λ (b : Bool). value_in (cond b ((word, value) ∷ inits_in extent r told) (inits_in extent r told)) w) own
          ∙ value_first word value w (inits_in extent r told) same
          ∙ sym (value_first word value w (inits_in extents.Word w told) same)
          ∙ sym (ap (λ (b : Bool).
          value_in (cond b ((word, value) ∷ inits_in extents.Word w told) (inits_in extents.Word w told)) w) its)
          ∙ sym (here extents.Word w)
      | inr other ↦
          here extent r ∙ value_behind (eqb (row_of extent word.0) r) word value w (inits_in extent r told) other
          ∙ same_value extent w told
          ∙ sym (value_behind (eqb word.0 w) word value w (inits_in extents.Word w told) other)
          ∙ sym (here extents.Word w)
    ]

-- ---- orders

nowhere : {X : Type 0} (xs : List X) (k : ℕ) (x : X) → length xs ≡ 0 → slice_get xs k ≡ Some x → ⊥
nowhere xs k x none stands = let within : k < length xs = slice_get_within xs k x stands in omega arith

-- if there is no access there is an order
nothing_to_order : (initial : ℕ → ℕ) → IsOrderOf initial [] []
nothing_to_order initial = record {
  each_once = record {
    within = λ k i stands. absurd (nowhere [] k i refl stands);
    once = λ i within. absurd (omega arith);
  };
  legal = record { replies = λ k e stands. absurd (nowhere [] k e refl stands) };
  cores = λ j k a b d e before at_j at_k is_a is_b. absurd (nowhere [] j a refl at_j);
  ordered = record {
    core_order = λ j k d e before at_j at_k. absurd (nowhere [] j d refl at_j);
    since = λ k e stands. absurd (nowhere [] k e refl stands);
  };
  intervals = λ j k a b d e before at_j at_k is_a is_b. absurd (nowhere [] j a refl at_j);
}

-- the first rows have these orders
pub record AreOrdered (initial : ℕ → ℕ → ℕ) (accesses : ℕ → List Access) (orders : List (Vec ℕ Global))
    (k : ℕ) : Type 0 where
  pub count : length orders ≡ k
  pub each : (r : ℕ) → r < k → IsOrderOf (initial r) (accesses r) (order_of (slice_get orders r))

pub ordered_none : (initial : ℕ → ℕ → ℕ) (accesses : ℕ → List Access) → AreOrdered initial accesses [] 0
ordered_none initial accesses = record { count = refl; each = λ r within. absurd (omega arith) }

slice_get-front : {X : Type 0} (xs ys : List X) (k : ℕ) → k < length xs → slice_get (xs ++ ys) k ≡ slice_get xs k
slice_get-front [] ys k within = absurd (omega arith)
slice_get-front (x ∷ xs) ys zero within = refl
slice_get-front (x ∷ xs) ys (suc k) within = slice_get-front xs ys k (omega arith)

slice_get-last : {X : Type 0} (xs : List X) (y : X) → slice_get (xs ++ y ∷ []) (length xs) ≡ Some y
slice_get-last [] y = refl
slice_get-last (x ∷ xs) y = slice_get-last xs y

pub ordered_more : (initial : ℕ → ℕ → ℕ) (accesses : ℕ → List Access) (orders now : List (Vec ℕ Global)) (k : ℕ)
    (order : Vec ℕ Global) → now ≡ orders ++ order ∷ []
    → IsOrderOf (initial k) (accesses k) order.items → AreOrdered initial accesses orders k
    → AreOrdered initial accesses now (k + 1)
ordered_more initial accesses orders now k order pushed is before = record {
  count = ap length pushed ∙ length-append orders (order ∷ []) ∙ ap (λ n. n + 1) before.count;
  each = λ r within. subst (λ os. IsOrderOf (initial r) (accesses r) (order_of (slice_get os r)))
      (sym pushed) (elim (cases_order r k) [
        | inl last ↦
            let at : slice_get (orders ++ order ∷ []) r ≡ Some order =
            ap (slice_get (orders ++ order ∷ [])) (last ∙ sym before.count) ∙ slice_get-last orders order in
            subst (λ o. IsOrderOf (initial r) (accesses r) (order_of o)) (sym at)
            (subst (λ n. IsOrderOf (initial n) (accesses n) order.items) (sym last) is)
        | inr (inl under) ↦
            let count : length orders ≡ k = before.count in
            subst (λ o. IsOrderOf (initial r) (accesses r) (order_of o))
            (sym (slice_get-front orders (order ∷ []) r (omega arith))) (before.each r under)
        | inr (inr over) ↦ absurd (omega arith)
      ]);
}

-- rows past the last have no accesses, and so an order
pub ordered_all : (initial : ℕ → ℕ → ℕ) (rows : List History) (orders : List (Vec ℕ Global)) (k : ℕ)
    → length rows ≤ k → AreOrdered initial (λ r. accesses_of (slice_get rows r)) orders k
    → (r : ℕ)
    → IsOrderOf (initial r) (accesses_of (slice_get rows r)) (order_of (slice_get orders r))
ordered_all initial rows orders k all are r = elim (cases_lt r k) [
  | inl within ↦ are.each r within
  | inr past ↦
      let count : length orders ≡ k = are.count in
      let no_row : slice_get rows r ≡ None = slice_get_past rows r (omega arith) in
      let no_order : slice_get orders r ≡ None = slice_get_past orders r (omega arith) in
      subst (λ h. IsOrderOf (initial r) (accesses_of h) (order_of (slice_get orders r))) (sym no_row)
      (subst (λ o. IsOrderOf (initial r) [] (order_of o)) (sym no_order) (nothing_to_order (initial r)))
]

-- the verdict on histories is that on the lines from which they are read
pub verdict_on_told : (histories : Histories) (told : List HistoryLine) (verdict : Verdict) → AreTold histories told
    → IsVerdictOn (inits_at histories) (accesses_at histories) verdict
    → IsVerdictOn (λ r. inits_in histories.extent r told) (λ r. accesses_in histories.extent r told) verdict
verdict_on_told histories told (verdicts.Coherent orders) are is = λ r.
    let order : List ℕ = order_of (slice_get orders.items r) in
    let x = histories.extent in
    subst (λ (g : List (WordAddr × ℕ)). IsOrderOf (initially g) (accesses_in x r told) order) (are.inits r)
    (subst (λ (list : List Access). IsOrderOf (initially (inits_at histories r)) list order) (are.accesses r) (is r))
verdict_on_told histories told (verdicts.Incoherent r reason) are is =
    let x = histories.extent in
    subst (λ (g : List (WordAddr × ℕ)). HasNoOrder (initially g) (accesses_in x r told)) (are.inits r)
    (subst (λ (list : List Access). HasNoOrder (initially (inits_at histories r)) list) (are.accesses r) is)
verdict_on_told histories told (verdicts.Undecided r) are is = tt
