-- How a word's value changes as entries are added to a log.
use Rattle.std.proofs.Common.{◌≡◌, ◌≢◌, ℕ, ◌+◌, ◌%◌, ◌^◌, ◌<◌, ◌==◌, Bool, true, false, not, List, [], ◌∷◌, ◌++◌}
use Rattle.std.proofs.Common.{reverse, length, take, get_or, sum_by, Option, Some, None, refl, sym, ap, ◌∙◌, arith}
use Rattle.std.proofs.Common.{add-zero, lit<, eq-eqb, eqb}
use Rattle.std.proofs.lemmas.Bool.{ne_eqb}
use Rattle.std.proofs.Math.Nat.{mod-add-mod, mod-eq_of_lt}
use Rattle.std.specs.Prelude.{find, take_while, is_some, unwrap_or, option_and_then}
use Rattle.std.proofs.lemmas.List.{reverse-append, take_more}
use Rattle.std.proofs.lemmas.List.Sums.{take_while-cons, sum_by-cons}
use Rattle.slice_log.specs.declared.entry.Entry.{Entry}
use Rattle.address_map.specs.declared.request.Op.{Op}
use Rattle.address_map.specs.declared.request.Op.TheVariants as ops
use Rattle.std.specs.Prelude.{if◌then◌else◌}
use Rattle.std.proofs.lemmas.Nat.{mod_below}
use Rattle.slice_log.specs.Op.{reply_of, value_of}
use Rattle.slice_log.specs.Log.{value, value_past, stored_to, stored_by, added_to, added_by}

-- the value that entries leave, newest first, where f says what an entry stores and g what it adds
abbrev pub settled : (Entry → Option ℕ) → (Entry → ℕ) → ℕ → List Entry → ℕ
settled f g initial r =
    (unwrap_or (option_and_then f (find (λ e. is_some (f e)) r)) initial + sum_by g
    (take_while (λ e. not (is_some (f e))) r)) % 2 ^ 64

pub settled-cons : (f : Entry → Option ℕ) (g : Entry → ℕ) (initial : ℕ) (e : Entry) (r : List Entry) (s : Option ℕ)
    → f e ≡ s
    → settled f g initial (e ∷ r) ≡ value_past s (settled f g initial r) (g e)
settled-cons f g initial e r None h =
    let m = 2 ^ 64 in
    let before = unwrap_or (option_and_then f (find (λ d. is_some (f d)) r)) initial in
    let since = sum_by g (take_while (λ d. not (is_some (f d))) r) in
    let regrouped : before + (g e + since) ≡ before + since + g e = omega arith in
    rw (take_while-cons (λ d. not (is_some (f d))) e r)
    (rw h (ap (λ n. (before + n) % m) (sum_by-cons g e (take_while (λ d. not (is_some (f d))) r))
    ∙ ap (λ n. n % m) regrouped
    ∙ sym (mod-add-mod (before + since) m (g e))))
settled-cons f g initial e r (Some x) h =
    rw (take_while-cons (λ d. not (is_some (f d))) e r)
    (rw h (ap (λ o. (unwrap_or o initial + 0) % 2 ^ 64) h ∙ ap (λ n. n % 2 ^ 64) (add-zero x)))

pub value-nil : (initial w : ℕ) → initial < 2 ^ 64 → value initial [] w ≡ initial
unfolding value
value-nil initial w small = ap (λ n. n % 2 ^ 64) (add-zero initial) ∙ mod-eq_of_lt small

-- one more entry
pub value-push : (initial : ℕ) (log : List Entry) (e : Entry) (w : ℕ)
    → value initial (log ++ e ∷ []) w ≡ value_past (stored_to w e) (value initial log w) (added_to w e)
unfolding value
value-push initial log e w =
    rw (reverse-append log (e ∷ []))
    (settled-cons (stored_to w) (added_to w) initial e (reverse log) (stored_to w e) refl)

-- one more entry of a log that is read from its front
pub value-more : (initial : ℕ) (log : List Entry) (i w v r : ℕ) (d : Entry) → i < length log
    → v ≡ value initial (take i log) w
    → r ≡ value_past (stored_to w (get_or log i d)) v (added_to w (get_or log i d)) → r
    ≡ value initial (take (i + 1) log) w
value-more initial log i w v r d h so_far step =
    let e = get_or log i d in
    step ∙ ap (λ n. value_past (stored_to w e) n (added_to w e)) so_far ∙ sym (value-push initial (take i log) e w)
    ∙ sym (ap (λ es. value initial es w) (take_more log i d h))

-- a value is a word
pub value-lt : (initial : ℕ) (log : List Entry) (w : ℕ) → value initial log w < 2 ^ 64
unfolding value
value-lt initial log w = mod_below _ (2 ^ 64) (lit< tt)

-- an access that got the reply that its word's value gives leaves the value that it says
pub value_past-same : (op : Op) (reply v : ℕ) → v < 2 ^ 64 → reply ≡ reply_of op v
    → value_past (stored_by op reply) v (added_by op) ≡ value_of op v
value_past-same ops.Load reply v small h = ap (λ n. n % 2 ^ 64) (add-zero v) ∙ mod-eq_of_lt small
value_past-same (ops.Store new) reply v small h = refl
value_past-same (ops.Add delta) reply v small h = refl
value_past-same (ops.Cas expect new) reply v small h = rw h (cas (v == expect))
  where
    cas : (b : Bool) → value_past (if b then Some new else None) v 0 ≡ (if b then new % 2 ^ 64 else v)
    cas true = refl
    cas false = ap (λ n. n % 2 ^ 64) (add-zero v) ∙ mod-eq_of_lt small

pub value-perform : (initial : ℕ) (log : List Entry) (e : Entry) (w : ℕ) → e.word.0 ≡ w
    → e.reply ≡ reply_of e.op (value initial log w)
    → value initial (log ++ e ∷ []) w ≡ value_of e.op (value initial log w)
value-perform initial log e w here h =
    let is_here : eqb e.word.0 w ≡ true = eq-eqb e.word.0 w here in
    value-push initial log e w
    ∙ rw is_here (value_past-same e.op e.reply (value initial log w) (value-lt initial log w) h)

pub value-perform_other : (initial : ℕ) (log : List Entry) (e : Entry) (w : ℕ) → e.word.0 ≢ w
    → value initial (log ++ e ∷ []) w ≡ value initial log w
value-perform_other initial log e w other =
    let is_other : eqb e.word.0 w ≡ false = ne_eqb e.word.0 w other in
    value-push initial log e w
    ∙ rw is_other (ap (λ n. n % 2 ^ 64) (add-zero (value initial log w)) ∙ mod-eq_of_lt (value-lt initial log w))
