-- The values of the words, as words are named and entries are taken.
use Rattle.std.proofs.Common.{◌≡◌, ℕ, ◌^◌, ◌<◌, Bool, true, false, cond, eqb, take, length, List, [], ◌∷◌, ◌++◌, get_or}
use Rattle.std.proofs.Common.{refl, sym, ap, ◌∙◌, inl, inr, arith}
use Rattle.std.specs.Prelude.{All, Some, None}
use Rattle.std.specs.Option.{option_map_or}
use Rattle.std.proofs.lemmas.List.{length-take-le, get_or-take, get_or_default}
use Rattle.std.proofs.lemmas.Bool.Decides.{eqb_tells}
use Rattle.std.proofs.lemmas.List.Elements.{All-head, All-tail}
use Rattle.address_map.specs.declared.address.WordAddr.{WordAddr}
use Rattle.address_map.specs.Words.{IsAscendingBy}
use Rattle.slice_log.specs.Log.{value, initially}
use Rattle.slice_log.specs.Op.{value_of}
use Rattle.slice_log.specs.declared.entry.Entry.{Entry}
use Rattle.slice_log.proofs.Values.{value-nil, value-perform, value-perform_other}
use Rattle.trace_check.specs.Verdict.{IsItsReply}

choice-same : (b : Bool) (pair : WordAddr × ℕ) → option_map_or (λ (p : WordAddr × ℕ). p.1) (cond b (Some pair) None) 0
    ≡ cond b pair.1 0
choice-same true pair = refl
choice-same false pair = refl

-- a word above those that are named begins with the value that is paired with it
pub initially-push : (init : List (WordAddr × ℕ)) (word : WordAddr) (v w : ℕ) → All (λ pair. pair.0.0 < word.0) init
    → initially (init ++ (word, v) ∷ []) w ≡ cond (eqb word.0 w) v (initially init w)
initially-push [] word v w below = choice-same (eqb word.0 w) (word, v)
initially-push (p ∷ init) word v w below =
    let first : p.0.0 < word.0 = All-head (λ pair. pair.0.0 < word.0) p init below in
    elim (eqb_tells p.0.0 w) [
      | inl here ↦ elim (eqb_tells word.0 w) [
        | inl other ↦ absurd (let a : p.0.0 ≡ w = here.1 in let b : word.0 ≡ w = other.1 in omega arith)
        | inr other ↦ rw (here.0, other.0) refl
      ]
      | inr elsewhere ↦ rw elsewhere.0
          (initially-push init word v w (All-tail (λ pair. pair.0.0 < word.0) p init below))
    ]

begun : (b : Bool) (was first v w : ℕ) → v < 2 ^ 64 → was ≡ value first [] w
    → cond b v was ≡ value (cond b v first) [] w
begun true was first v w small is = sym (value-nil v w small)
begun false was first v w small is = is

-- one more word has an initial value
pub values-begin : (was now : List ℕ) (init : List (WordAddr × ℕ)) (word : WordAddr) (v : ℕ) → v < 2 ^ 64
    → All (λ pair. pair.0.0 < word.0) init → ((w : ℕ) → get_or was w 0 ≡ value (initially init w) [] w)
    → ((w : ℕ) → get_or now w 0 ≡ cond (eqb word.0 w) v (get_or was w 0))
    → (w : ℕ) → get_or now w 0 ≡ value (initially (init ++ (word, v) ∷ []) w) [] w
values-begin was now init word v small below values set w =
    set w ∙ begun (eqb word.0 w) (get_or was w 0) (initially init w) v w small (values w)
    ∙ ap (λ n. value n [] w) (sym (initially-push init word v w below))

-- an entry with the reply that its word's value gives leaves the value that it says, and no other word changes
pub values-take : (was now : List ℕ) (initial : ℕ → ℕ) (log : List Entry) (e : Entry)
    → ((w : ℕ) → get_or was w 0 ≡ value (initial w) log w) → IsItsReply initial log e
    → ((w : ℕ) → get_or now w 0 ≡ cond (eqb e.word.0 w) (value_of e.op (get_or was e.word.0 0)) (get_or was w 0))
    → (w : ℕ) → get_or now w 0 ≡ value (initial w) (log ++ e ∷ []) w
values-take was now initial log e values reply set w =
    elim (eqb_tells e.word.0 w) [
      | inl here ↦
          let found : get_or now w 0 ≡ value_of e.op (get_or was e.word.0 0) =
          set w ∙ ap (λ b. cond b (value_of e.op (get_or was e.word.0 0)) (get_or was w 0)) here.0 in
          let left : value_of e.op (get_or was e.word.0 0) ≡ value (initial e.word.0) (log ++ e ∷ []) e.word.0 =
          ap (value_of e.op) (values e.word.0) ∙ sym (value-perform (initial e.word.0) log e e.word.0 refl reply) in
          found ∙ left ∙ ap (λ n. value (initial n) (log ++ e ∷ []) n) here.1
      | inr other ↦
          set w ∙ ap (λ b. cond b (value_of e.op (get_or was e.word.0 0)) (get_or was w 0)) other.0
          ∙ values w ∙ sym (value-perform_other (initial w) log e w other.1)
    ]

-- if words ascend, those before a place are below the one there
pub named_below : (init : List (WordAddr × ℕ)) (i : ℕ) (d : WordAddr × ℕ) → IsAscendingBy (λ pair. pair.0.0) init
    → i < length init
    → All (λ pair. pair.0.0 < (get_or init i d).0.0) (take i init)
named_below init i d ascending within = λ k e below.
    let whole : length (take i init) ≡ i = length-take-le i init (omega arith) in
    let first : k < i = omega arith in
    let same : get_or init i e ≡ get_or init i d = get_or_default init i e d within in
    let before : (get_or init k e).0.0 < (get_or init i e).0.0 = ascending k i e first within in
    rw (get_or-take i init k e first, ← same) before
