-- Words that write lines of a history.
use Rattle.std.proofs.Common.{◌≡◌, ℕ, ◌<◌, ◌≤◌, ◌-◌, arith, drop, take, length, map, List, [], ◌∷◌, ◌++◌, get_or, eqb, eq-eqb, false, true, refl, sym, ap, ◌∙◌, subst}
use Rattle.std.proofs.lemmas.List.{take_all}
use Rattle.std.specs.Prelude.{codes, Option, Some, None, Result, Ok, Err, IfOk, IfErr}
use Rattle.address_map.specs.declared.address.WordAddr.{WordAddr}
use Rattle.address_map.specs.declared.request.Op.{Op}
use Rattle.address_map.specs.declared.request.Op.TheVariants as ops
use Rattle.litmus_text.specs.Form.{num, Writes}
use Rattle.trace_check.specs.declared.judge.TheConstants.{MOST_WORDS}
use Rattle.history_text.specs.HistoryLine.{IsAccessBy, IsAccessLine, IsDuring, IsInterval, IsLineOf, IsParted, IsTold}
use Rattle.history_text.specs.HistoryLine.{ReadsAsLine}
use Rattle.litmus_text.specs.declared.fault.LineFault.{LineFault}
use Rattle.history_text.specs.declared.history_line.HistoryLine.{HistoryLine}
use Rattle.history_text.specs.declared.history_line.HistoryLine.TheVariants as history_lines

-- a word isn't two names that begin with different letters
pub two_names : (word a b : List ℕ) → word ≡ a → word ≡ b → eqb (get_or a 0 0) (get_or b 0 0) ≡ false → ⊥
two_names word a b h k other =
    let same : eqb (get_or a 0 0) (get_or b 0 0) ≡ true =
    eq-eqb (get_or a 0 0) (get_or b 0 0) (ap (λ t. get_or t 0 0) (sym h ∙ k)) in cc

-- ---- accesses

-- words of another name write no access, nor do none
pub other_name : (name : List ℕ) (rest : List (List ℕ)) (op : Op) (word reply : ℕ) → (name ≡ codes "load" → ⊥)
    → (name ≡ codes "store" → ⊥) → (name ≡ codes "add" → ⊥) → (name ≡ codes "cas" → ⊥)
    → IsTold (name ∷ rest) op word reply → ⊥
unfolding IsTold
other_name name rest ops.Load word reply load store add cas told = load told.0
other_name name rest (ops.Store value) word reply load store add cas told = store told.0.0
other_name name rest (ops.Add delta) word reply load store add cas told = add told.0
other_name name rest (ops.Cas expect new) word reply load store add cas told = cas told.0

pub no_name : (op : Op) (word reply : ℕ) → IsTold [] op word reply → ⊥
unfolding IsTold
no_name ops.Load word reply told = told
no_name (ops.Store value) word reply told = told.0
no_name (ops.Add delta) word reply told = told
no_name (ops.Cas expect new) word reply told = told

pub of_load : (ws : List (List ℕ)) (op : Op) (word reply : ℕ) → IsTold (codes "load" ∷ ws) op word reply
    → Writes ws (num word ∷ num reply ∷ [])
unfolding IsTold
of_load ws ops.Load word reply told = told.1
of_load ws (ops.Store value) word reply told =
    absurd (two_names (codes "load") (codes "load") (codes "store") refl told.0.0 refl)
of_load ws (ops.Add delta) word reply told =
    absurd (two_names (codes "load") (codes "load") (codes "add") refl told.0 refl)
of_load ws (ops.Cas expect new) word reply told =
    absurd (two_names (codes "load") (codes "load") (codes "cas") refl told.0 refl)

pub of_store : (ws : List (List ℕ)) (op : Op) (word reply : ℕ) → IsTold (codes "store" ∷ ws) op word reply
    → (value : ℕ) × Writes ws (num word ∷ num value ∷ [])
unfolding IsTold
of_store ws ops.Load word reply told =
    absurd (two_names (codes "store") (codes "store") (codes "load") refl told.0 refl)
of_store ws (ops.Store value) word reply told = (value, told.0.1)
of_store ws (ops.Add delta) word reply told =
    absurd (two_names (codes "store") (codes "store") (codes "add") refl told.0 refl)
of_store ws (ops.Cas expect new) word reply told =
    absurd (two_names (codes "store") (codes "store") (codes "cas") refl told.0 refl)

pub of_add : (ws : List (List ℕ)) (op : Op) (word reply : ℕ) → IsTold (codes "add" ∷ ws) op word reply
    → (delta : ℕ) × Writes ws (num word ∷ num delta ∷ num reply ∷ [])
unfolding IsTold
of_add ws ops.Load word reply told =
    absurd (two_names (codes "add") (codes "add") (codes "load") refl told.0 refl)
of_add ws (ops.Store value) word reply told =
    absurd (two_names (codes "add") (codes "add") (codes "store") refl told.0.0 refl)
of_add ws (ops.Add delta) word reply told = (delta, told.1)
of_add ws (ops.Cas expect new) word reply told =
    absurd (two_names (codes "add") (codes "add") (codes "cas") refl told.0 refl)

-- the numbers of a compare-exchange
pub record AreOfCas (ws : List (List ℕ)) (word reply : ℕ) : Type 0 where
  pub expect : ℕ
  pub new : ℕ
  pub written : Writes ws (num word ∷ num expect ∷ num new ∷ num reply ∷ [])

pub of_cas : (ws : List (List ℕ)) (op : Op) (word reply : ℕ) → IsTold (codes "cas" ∷ ws) op word reply
    → AreOfCas ws word reply
unfolding IsTold
of_cas ws ops.Load word reply told =
    absurd (two_names (codes "cas") (codes "cas") (codes "load") refl told.0 refl)
of_cas ws (ops.Store value) word reply told =
    absurd (two_names (codes "cas") (codes "cas") (codes "store") refl told.0.0 refl)
of_cas ws (ops.Add delta) word reply told =
    absurd (two_names (codes "cas") (codes "cas") (codes "add") refl told.0 refl)
of_cas ws (ops.Cas expect new) word reply told = record { expect = expect; new = new; written = told.1 }

-- ---- lines

-- what words after `init` write
pub record IsInitOf (ws : List (List ℕ)) (line : HistoryLine) : Type 0 where
  pub word : WordAddr
  pub value : ℕ
  pub is : line ≡ history_lines.Init word value
  pub written : Writes ws (num word.0 ∷ num value ∷ [])
  pub within : word.0 < MOST_WORDS

pub of_init : (ws : List (List ℕ)) (line : HistoryLine) → IsLineOf (codes "init" ∷ ws) line → IsInitOf ws line
unfolding IsLineOf
of_init ws (history_lines.Init word value) is =
    record { word = word; value = value; is = refl; written = is.0.1; within = is.1 }
of_init ws (history_lines.Access access) is =
    let name : codes "init" ≡ codes "core" = ap (λ ws. get_or ws 0 []) is.shape in
    absurd (two_names (codes "init") (codes "init") (codes "core") refl name refl)

-- other words write no line
pub of_none : (name : List ℕ) (ws : List (List ℕ)) (line : HistoryLine) → (name ≡ codes "init" → ⊥)
    → (name ≡ codes "core" → ⊥) → IsLineOf (name ∷ ws) line → ⊥
unfolding IsLineOf
of_none name ws (history_lines.Init word value) init core is = init is.0.0
of_none name ws (history_lines.Access access) init core is = core (ap (λ ws. get_or ws 0 []) is.shape)

of_core : (ws : List (List ℕ)) (line : HistoryLine) → IsLineOf (codes "core" ∷ ws) line
    → IsAccessLine (codes "core" ∷ ws) line
unfolding IsLineOf
of_core ws (history_lines.Init word value) is =
    absurd (two_names (codes "core") (codes "core") (codes "init") refl is.0.0 refl)
of_core ws (history_lines.Access access) is = is

pub no_words : (line : HistoryLine) → IsLineOf [] line → ⊥
unfolding IsLineOf
no_words (history_lines.Init word value) is = is.0
no_words (history_lines.Access access) is = cc

core_alone : (line : HistoryLine) → IsLineOf (codes "core" ∷ []) line → ⊥
core_alone line is =
    let shape : codes "core" ∷ [] ≡ codes "core" ∷ (of_core [] line is).core ∷ (of_core [] line is).behind =
    (of_core [] line is).shape in cc

-- .. nor does `core` without more
pub core_short : {X : Type 0} (text : X → List ℕ) (words : List X) (line : HistoryLine) → length words < 1
    → IsLineOf (codes "core" ∷ map text words) line → ⊥
core_short text [] line short is = core_alone line is
core_short text (word ∷ words) line short is = absurd (omega arith)

-- the first of some words, and those after it
pub behind_one : {X : Type 0} (text : X → List ℕ) (words : List X) (d : X) → 1 ≤ length words
    → map text words ≡ text (get_or words 0 d) ∷ map text (take (length words - 1) (drop 1 words))
behind_one text [] d some = absurd (omega arith)
behind_one text (word ∷ words) d some = rw (take_all (length (word ∷ words) - 1) words (omega arith)) refl

-- ---- the times of an access

-- the last of some words, and those before it
last_some : {X : Type 0} (xs : List X) (x : X) → [] ≡ xs ++ x ∷ [] → ⊥
last_some [] x e = cc
last_some (z ∷ xs) x e = cc

same_list : {X : Type 0} (x y : X) (xs ys : List X) → x ≡ y → xs ≡ ys → x ∷ xs ≡ y ∷ ys
same_list x y xs ys first rest = cc

last_same : {X : Type 0} (xs ys : List X) (x y : X) → xs ++ x ∷ [] ≡ ys ++ y ∷ [] → (xs ≡ ys) × (x ≡ y)
last_same [] [] x y e = (refl, cc)
last_same [] (b ∷ ys) x y e = absurd (last_some ys y cc)
last_same (a ∷ xs) [] x y e = absurd (last_some xs x cc)
last_same (a ∷ xs) (b ∷ ys) x y e =
    let rest = last_same xs ys x y cc in
    let first : a ≡ b = cc in
    (same_list a b xs ys first rest.0, rest.1)

-- no words end with times
pub none_without_words : (front : List (List ℕ)) (times : List ℕ) → [] ≡ front ++ (64 ∷ times) ∷ [] → ⊥
none_without_words front times e = last_some front (64 ∷ times) e

-- .. nor do words whose last begins otherwise
pub none_of_last : (words : List (List ℕ)) (last : List ℕ) → ((times : List ℕ) → last ≡ 64 ∷ times → ⊥)
    → (front : List (List ℕ)) (times : List ℕ) → words ++ last ∷ [] ≡ front ++ (64 ∷ times) ∷ [] → ⊥
none_of_last words last other front times e = other times (last_same words front last (64 ∷ times) e).1

-- an access with times that these words say
pub record IsTimedBy (core : List ℕ) (told : List (List ℕ)) (times : List ℕ) (line : HistoryLine) : Type 0 where
  pub begin : ℕ
  pub end : ℕ
  pub interval : IsInterval times begin end
  pub is : IsAccessBy core told begin end line

timed_by : (behind told other : List (List ℕ)) (times : List ℕ) (said : Option (List ℕ)) (core : List ℕ)
    (begin end : ℕ) (line : HistoryLine) → behind ≡ told ++ (64 ∷ times) ∷ [] → IsParted behind other said
    → IsDuring said begin end → IsAccessBy core other begin end line → IsTimedBy core told times line
timed_by behind told other times None core begin end line shape parted during is =
    absurd (parted.1 told times shape)
timed_by behind told other times (Some said) core begin end line shape parted during is =
    let same = last_same other told (64 ∷ said) (64 ∷ times) (sym parted ∙ shape) in
    let words : said ≡ times = cc in
    record {
      begin = begin;
      end = end;
      interval = subst (λ t. IsInterval t begin end) words during;
      is = subst (λ ws. IsAccessBy core ws begin end line) same.0 is;
    }

pub timed : (core : List ℕ) (behind told : List (List ℕ)) (times : List ℕ) (line : HistoryLine)
    → behind ≡ told ++ (64 ∷ times) ∷ [] → IsLineOf (codes "core" ∷ core ∷ behind) line
    → IsTimedBy core told times line
timed core behind told times line shape is =
    let l = of_core (core ∷ behind) line is in
    let same : codes "core" ∷ core ∷ behind ≡ codes "core" ∷ l.core ∷ l.behind = l.shape in
    let same_core : l.core ≡ core = cc in
    let same_behind : l.behind ≡ behind = cc in
    timed_by behind told l.told times l.times core l.begin l.end line shape
    (subst (λ ws. IsParted ws l.told l.times) same_behind l.parted) l.during
    (subst (λ w. IsAccessBy w l.told l.begin l.end line) same_core l.is)

untimed_by : (behind other : List (List ℕ)) (said : Option (List ℕ)) (core : List ℕ) (begin end : ℕ)
    (line : HistoryLine) → ((front : List (List ℕ)) (times : List ℕ) → behind ≡ front ++ (64 ∷ times) ∷ [] → ⊥)
    → IsParted behind other said → IsDuring said begin end → IsAccessBy core other begin end line
    → IsAccessBy core behind 0 18446744073709551615 line
untimed_by behind other None core begin end line none parted during is =
    subst (λ b. IsAccessBy core behind b 18446744073709551615 line) during.0
    (subst (λ e. IsAccessBy core behind begin e line) during.1
    (subst (λ ws. IsAccessBy core ws begin end line) (sym parted.0) is))
untimed_by behind other (Some said) core begin end line none parted during is = absurd (none other said parted)

untimed : (core : List ℕ) (behind : List (List ℕ)) (line : HistoryLine)
    → ((front : List (List ℕ)) (times : List ℕ) → behind ≡ front ++ (64 ∷ times) ∷ [] → ⊥)
    → IsLineOf (codes "core" ∷ core ∷ behind) line → IsAccessBy core behind 0 18446744073709551615 line
untimed core behind line none is =
    let l = of_core (core ∷ behind) line is in
    let same : codes "core" ∷ core ∷ behind ≡ codes "core" ∷ l.core ∷ l.behind = l.shape in
    let same_core : l.core ≡ core = cc in
    let same_behind : l.behind ≡ behind = cc in
    untimed_by behind l.told l.times core l.begin l.end line none
    (subst (λ ws. IsParted ws l.told l.times) same_behind l.parted) l.during
    (subst (λ w. IsAccessBy w l.told l.begin l.end line) same_core l.is)

-- words that write an access of a core, with its times or without, are its line
timed_line : (core : List ℕ) (behind told : List (List ℕ)) (times : List ℕ) (begin end : ℕ) (line : HistoryLine)
    → behind ≡ told ++ (64 ∷ times) ∷ [] → IsInterval times begin end → IsAccessBy core told begin end line
    → IsLineOf (codes "core" ∷ core ∷ behind) line
unfolding IsAccessBy IsLineOf
timed_line core behind told times begin end (history_lines.Init word value) shape interval is = absurd is
timed_line core behind told times begin end (history_lines.Access access) shape interval is = record {
  core = core;
  behind = behind;
  shape = refl;
  told = told;
  times = Some times;
  parted = shape;
  begin = begin;
  end = end;
  during = interval;
  is = is;
}

untimed_line : (core : List ℕ) (behind : List (List ℕ)) (line : HistoryLine)
    → ((front : List (List ℕ)) (times : List ℕ) → behind ≡ front ++ (64 ∷ times) ∷ [] → ⊥)
    → IsAccessBy core behind 0 18446744073709551615 line → IsLineOf (codes "core" ∷ core ∷ behind) line
unfolding IsAccessBy IsLineOf
untimed_line core behind (history_lines.Init word value) none is = absurd is
untimed_line core behind (history_lines.Access access) none is = record {
  core = core;
  behind = behind;
  shape = refl;
  told = behind;
  times = None;
  parted = (refl, none);
  begin = 0;
  end = 18446744073709551615;
  during = (refl, refl);
  is = is;
}

-- what is read of an access with times, and of one without
pub reads_timed : (core : List ℕ) (behind told : List (List ℕ)) (times : List ℕ) (begin end : ℕ)
    (result : Result HistoryLine LineFault) → behind ≡ told ++ (64 ∷ times) ∷ [] → IsInterval times begin end
    → ((b e : ℕ) → IsInterval times b e → (b ≡ begin) × (e ≡ end)) → IfOk result (IsAccessBy core told begin end)
    → IfErr result (λ fault. (line : HistoryLine) → IsAccessBy core told begin end line → ⊥)
    → ReadsAsLine (codes "core" ∷ core ∷ behind) result
reads_timed core behind told times begin end (Ok line) shape interval only written refused =
    record { written = timed_line core behind told times begin end line shape interval written; refused = tt }
reads_timed core behind told times begin end (Err fault) shape interval only written refused = record {
  written = tt;
  refused = λ line is.
      let by = timed core behind told times line shape is in
      let same = only by.begin by.end by.interval in
      refused line (subst (λ b. IsAccessBy core told b end line) same.0
      (subst (λ e. IsAccessBy core told by.begin e line) same.1 by.is));
}

pub reads_untimed : (core : List ℕ) (behind : List (List ℕ)) (result : Result HistoryLine LineFault)
    → ((front : List (List ℕ)) (times : List ℕ) → behind ≡ front ++ (64 ∷ times) ∷ [] → ⊥)
    → IfOk result (IsAccessBy core behind 0 18446744073709551615)
    → IfErr result (λ fault. (line : HistoryLine) → IsAccessBy core behind 0 18446744073709551615 line → ⊥)
    → ReadsAsLine (codes "core" ∷ core ∷ behind) result
reads_untimed core behind (Ok line) none written refused =
    record { written = untimed_line core behind line none written; refused = tt }
reads_untimed core behind (Err fault) none written refused =
    record { written = tt; refused = λ line is. refused line (untimed core behind line none is) }
