-- Which accesses left a value, as a history is read.
use Rattle.std.proofs.Common.{◌≡◌, ◌≢◌, ℕ, ◌+◌, ◌<◌, ◌≤◌, ◌⊎◌, List, length, Option, Some, None, sym, ap, ◌∙◌, inl, inr}
use Rattle.std.proofs.Common.{arith, subst, nat_eq, slice_get, is_some, not, Bool, false, IsTrue}
use Rattle.std.specs.HashMap.{get}
use Rattle.std.proofs.lemmas.Bool.{cases_order}
use Rattle.history_judge.specs.Access.{left_in}
use Rattle.history_judge.specs.Before.{IsWrite}
use Rattle.history_judge.specs.Writers.{left_at, IsAlone, IsTableOf, IsWriterOf}
use Rattle.history_judge.specs.declared.access.Access.{Access}
use Rattle.history_judge.specs.declared.writers.Writer.{Writer}
use Rattle.history_judge.specs.declared.writers.Writer.TheVariants as writers
use Rattle.history_judge.specs.declared.writers.Writers.{Writers}
use Rattle.history_judge.proofs.Runs.{left_at-some, left_at-within}

-- only this one of the first accesses left the value
pub record IsAloneUpTo (word : ℕ) (history : List Access) (k v w : ℕ) : Type 0 where
  pub left : left_at word history w ≡ Some v
  pub alone : (i : ℕ) → i < k → left_at word history i ≡ Some v → i ≡ w

-- the recorded writer of a value is right for the first accesses
abbrev pub IsWriterUpTo : ℕ → List Access → ℕ → ℕ → Option Writer → Type 0
IsWriterUpTo word history k v None = (i : ℕ) → i < k → left_at word history i ≢ Some v
IsWriterUpTo word history k v (Some (writers.One w)) = IsAloneUpTo word history k v w
IsWriterUpTo word history k v (Some writers.Several) = Unit {0}

pub up_to_none : (word : ℕ) (history : List Access) (v : ℕ) → IsWriterUpTo word history 0 v None
up_to_none word history v = λ i none. absurd (omega arith)

-- an access that left another value, or none
pub up_to_other : (word : ℕ) (history : List Access) (k v : ℕ) (o : Option Writer) → left_at word history k ≢ Some v
    → IsWriterUpTo word history k v o → IsWriterUpTo word history (k + 1) v o
up_to_other word history k v None other so_far = λ i under left. elim (cases_order i k) [
  | inl last ↦ other (sym (ap (left_at word history) last) ∙ left)
  | inr (inl before) ↦ so_far i before left
  | inr (inr over) ↦ absurd (omega arith)
]
up_to_other word history k v (Some (writers.One w)) other so_far = record {
  left = so_far.left;
  alone = λ i under left. elim (cases_order i k) [
    | inl last ↦ absurd (other (sym (ap (left_at word history) last) ∙ left))
    | inr (inl before) ↦ so_far.alone i before left
    | inr (inr over) ↦ absurd (omega arith)
  ];
}
up_to_other word history k v (Some writers.Several) other so_far = tt

-- one that left this value first
pub up_to_first : (word : ℕ) (history : List Access) (k v : ℕ) → left_at word history k ≡ Some v → IsWriterUpTo word history k v None
    → IsWriterUpTo word history (k + 1) v (Some (writers.One k))
up_to_first word history k v here so_far = record {
  left = here;
  alone = λ i under left. elim (cases_order i k) [
    | inl last ↦ last
    | inr (inl before) ↦ absurd (so_far i before left)
    | inr (inr over) ↦ absurd (omega arith)
  ];
}

-- once all were read
pub up_to_all : (word : ℕ) (history : List Access) (k v : ℕ) (o : Option Writer) → length history ≤ k
    → IsWriterUpTo word history k v o → IsWriterOf word history v o
unfolding IsWriterOf
up_to_all word history k v None all so_far = λ i left.
    let within : i < length history = left_at-within word history i v left in
    so_far i (omega arith) left
up_to_all word history k v (Some (writers.One w)) all so_far = record {
  left = so_far.left;
  alone = λ i left.
      let within : i < length history = left_at-within word history i v left in
      so_far.alone i (omega arith) left;
}
up_to_all word history k v (Some writers.Several) all so_far = tt

-- ---- what a table says

none_left : (word : ℕ) (history : List Access) (v : ℕ) (o : Option Writer) → IsWriterOf word history v o → is_some o ≡ false
    → (k : ℕ) → left_at word history k ≢ Some v
unfolding IsWriterOf
none_left word history v None said nothing = said
none_left word history v (Some w) said nothing = absurd (cc)

pub says_none : (table : Writers) (word : ℕ) (history : List Access) (v : ℕ) (r : Option Writer) (b : Bool)
    → IsTableOf table word history → r ≡ get nat_eq table.map v → is_some r ≡ not b → IsTrue b
    → (k : ℕ) → left_at word history k ≢ Some v
says_none table word history v r b is read test nothing =
    none_left word history v r (subst (IsWriterOf word history v) (sym read) (is.says v)) (test ∙ ap not nothing)

pub says_one : (table : Writers) (word : ℕ) (history : List Access) (v w : ℕ) → IsTableOf table word history
    → get nat_eq table.map v ≡ Some (writers.One w) → IsAlone word history v w
unfolding IsWriterOf
says_one table word history v w is read = subst (IsWriterOf word history v) read (is.says v)

-- an access that left something changes the word
pub wrote : (word : ℕ) (history : List Access) (i : ℕ) (a : Access) → slice_get history i ≡ Some a
    → IsTrue (is_some (left_in word a)) → IsWrite word history i
wrote word history i a here some = from (left_in word a) (left_at-some word history i a here) some
  where
    from : (o : Option ℕ) → left_at word history i ≡ o → IsTrue (is_some o) → IsWrite word history i
    from None left none = absurd (cc)
    from (Some u) left something = record { value = u; left = left }
