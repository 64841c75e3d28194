-- Faults of words propagate: from some lines to a larger set of lines, and by a `?`.
use Rattle.std.proofs.Common.{◌≡◌, ℕ, List, [], ◌∷◌, Result, IsErrAnd, IfErr, length, map, get_or, zero, suc, ◌<◌, refl}
use Rattle.std.proofs.Common.{sym, subst, arith}
use Rattle.std.proofs.lemmas.Result.{err_from_is_err_and}
use Rattle.litmus_text.specs.declared.fault.LineFault.{LineFault}
use Rattle.litmus_text.specs.declared.fault.LineFault.TheVariants as line_faults
use Rattle.litmus_text.specs.Form.{Part, key, num, Writes, HasForm, IsFaultOf, IsFormFaultOf, one_part, two_parts}
use Rattle.litmus_text.specs.Form.{three_parts}
use Rattle.litmus_text.specs.Number.{IsNumber}
use Rattle.litmus_text.proofs.FormLemmas.{HasForm-Writes}

-- a `?` returns the fault unchanged
pub handed_on : {T : Type 0} (Q : LineFault → Type 0) (fault : LineFault) (r : Result T LineFault)
    → IsErrAnd r (λ x. x ≡ fault) → Q fault → IfErr r Q
handed_on Q fault r is holds =
    let p = err_from_is_err_and r is in
    rw p.1 (subst Q (sym p.2) holds)

-- What is wrong with some lines is wrong with those that they are a part of, where no others have a form that the
-- words have.
pub fault_of_part : {X Y : Type 0} (FormX SaysX HasX : X → Type 0) (FormY SaysY HasY : Y → Type 0) (line : X → Y)
    → ((P : Y → Type 0) → ((x : X) → P (line x)) → (y : Y) → FormY y → P y)
    → ((x : X) → FormX x → FormY (line x)) → ((x : X) → FormY (line x) → FormX x)
    → ((x : X) → SaysX x → SaysY (line x)) → ((x : X) → SaysY (line x) → SaysX x)
    → ((x : X) → HasY (line x) → HasX x) → ((y : Y) → SaysY y → FormY y)
    → (fault : LineFault) → IsFaultOf FormX SaysX HasX fault → IsFaultOf FormY SaysY HasY fault
unfolding IsFaultOf
fault_of_part FormX SaysX HasX FormY SaysY HasY line only form formed says said has says_form line_faults.NotACommand
    h =
    λ y w. only (λ z. FormY z → ⊥) (λ x f. h x (formed x f)) y w w
fault_of_part FormX SaysX HasX FormY SaysY HasY line only form formed says said has says_form line_faults.BadNumber h = (
  (line h.0.0, form h.0.0 h.0.1),
  λ y s. only (λ z. SaysY z → ⊥) (λ x t. h.1 x (said x t)) y (says_form y s) s,
)
fault_of_part FormX SaysX HasX FormY SaysY HasY line only form formed says said has says_form line_faults.OutOfRange h = (
  (line h.0.0, says h.0.0 h.0.1),
  λ y s. only (λ z. SaysY z → HasY z → ⊥) (λ x t k. h.1 x (said x t) (has x k)) y (says_form y s) s,
)
fault_of_part FormX SaysX HasX FormY SaysY HasY line only form formed says said has says_form other h = h

-- .. and so with lines that begin with a keyword, by what follows it
pub fault_behind : {X Y : Type 0} (name : List ℕ) (words : List (List ℕ)) (behind : X → List Part) (HasX : X → Type 0)
    (parts : Y → List Part) (SaysY HasY : Y → Type 0) (line : X → Y)
    → ((P : Y → Type 0) → ((x : X) → P (line x)) → (y : Y) → HasForm (name ∷ words) (parts y) → P y)
    → ((x : X) → parts (line x) ≡ key name ∷ behind x)
    → ((x : X) → Writes (name ∷ words) (parts (line x)) → SaysY (line x))
    → ((y : Y) → SaysY y → Writes (name ∷ words) (parts y)) → ((x : X) → HasY (line x) → HasX x) → (fault : LineFault)
    → IsFaultOf (λ x. HasForm words (behind x)) (λ x. Writes words (behind x)) HasX fault
    → IsFaultOf (λ y. HasForm (name ∷ words) (parts y)) SaysY HasY fault
fault_behind name words behind HasX parts SaysY HasY line only is says writes has =
    fault_of_part (λ x. HasForm words (behind x)) (λ x. Writes words (behind x)) HasX
    (λ y. HasForm (name ∷ words) (parts y)) SaysY HasY line only
    (λ x f. subst (HasForm (name ∷ words)) (sym (is x)) (refl, f))
    (λ x f. (subst (HasForm (name ∷ words)) (is x) f).1)
    (λ x w. says x (subst (Writes (name ∷ words)) (sym (is x)) (refl, w)))
    (λ x s. (subst (Writes (name ∷ words)) (is x) (writes (line x) s)).1)
    has (λ y s. HasForm-Writes (name ∷ words) (parts y) (writes y s))

pub form_behind : {X Y : Type 0} (name : List ℕ) (words : List (List ℕ)) (behind : X → List Part)
    (parts : Y → List Part)
    (line : X → Y) → ((P : Y → Type 0) → ((x : X) → P (line x)) → (y : Y) → HasForm (name ∷ words) (parts y) → P y)
    → ((x : X) → parts (line x) ≡ key name ∷ behind x) → (fault : LineFault)
    → IsFormFaultOf behind words fault → IsFormFaultOf parts (name ∷ words) fault
form_behind name words behind parts line only is =
    fault_behind name words behind (λ x. Unit {0}) parts (λ y. Writes (name ∷ words) (parts y))
    (λ y. Unit {0}) line only is
    (λ x w. w) (λ y w. w) (λ x has. has)

-- words with a fault write none of the lines
pub form_refuses : {X : Type 0} (parts : X → List Part) (words : List (List ℕ)) (fault : LineFault)
    → IsFormFaultOf parts words fault → (x : X) → ¬ Writes words (parts x)
unfolding IsFaultOf
form_refuses parts words line_faults.NotACommand wrong x written = wrong x (HasForm-Writes words (parts x) written)
form_refuses parts words line_faults.BadNumber wrong x written = wrong.1 x written
form_refuses parts words line_faults.OutOfRange wrong x written = wrong.1 x written tt
form_refuses parts words other wrong x written = wrong

-- a number that can't be read is reported before anything that the machine lacks
pub fault_of_form : {X : Type 0} (parts : X → List Part) (Has : X → Type 0) (words : List (List ℕ)) (fault : LineFault)
    → IsFormFaultOf parts words fault → IsFaultOf (λ x. HasForm words (parts x)) (λ x. Writes words (parts x)) Has fault
unfolding IsFaultOf
fault_of_form parts Has words line_faults.NotACommand h = h
fault_of_form parts Has words line_faults.BadNumber h = h
fault_of_form parts Has words line_faults.OutOfRange h = absurd (h.1 h.0.0 h.0.1 tt)
fault_of_form parts Has words other h = h

-- words say a line that the machine lacks, and no other
pub lacks : {X : Type 0} (Form Says Has : X → Type 0) (x : X) → Says x → ((y : X) → Says y → ¬ Has y)
    → (fault : LineFault)
    → fault ≡ line_faults.OutOfRange → IsFaultOf Form Says Has fault
unfolding IsFaultOf
lacks Form Says Has x says none fault is = subst (IsFaultOf Form Says Has) (sym is) ((x, says), none)

pub lacks_one : (words : List (List ℕ)) (a : ℕ) (Has : ℕ → Type 0) → Writes words (num a ∷ [])
    → ((n : ℕ) → Writes words (num n ∷ []) → n ≡ a) → ¬ Has a → (fault : LineFault) → fault ≡ line_faults.OutOfRange
    → IsFaultOf (λ n. HasForm words (one_part n)) (λ n. Writes words (one_part n)) Has fault
lacks_one words a Has written only none =
    lacks _ _ Has a written (λ n w has. none (subst Has (only n w) has))

pub lacks_two : (words : List (List ℕ)) (a b : ℕ) (Has : ℕ × ℕ → Type 0) → Writes words (num a ∷ num b ∷ [])
    → ((n m : ℕ) → Writes words (num n ∷ num m ∷ []) → (n ≡ a) × (m ≡ b)) → ¬ Has (a, b) → (fault : LineFault)
    → fault ≡ line_faults.OutOfRange
    → IsFaultOf (λ p. HasForm words (two_parts p)) (λ p. Writes words (two_parts p)) Has fault
lacks_two words a b Has written only none =
    lacks _ _ Has (a, b) written
    (λ p w has. none
    (subst (λ n. Has (n, b)) (only p.0 p.1 w).0 (subst (λ m. Has (p.0, m)) (only p.0 p.1 w).1 has)))

pub lacks_three : (words : List (List ℕ)) (a b d : ℕ) (Has : ℕ × ℕ × ℕ → Type 0)
    → Writes words (num a ∷ num b ∷ num d ∷ [])
    → ((n m k : ℕ) → Writes words (num n ∷ num m ∷ num k ∷ []) → (n ≡ a) × (m ≡ b) × (k ≡ d)) → ¬ Has (a, b, d)
    → (fault : LineFault) → fault ≡ line_faults.OutOfRange
    → IsFaultOf (λ p. HasForm words (three_parts p)) (λ p. Writes words (three_parts p)) Has fault
lacks_three words a b d Has written only none =
    lacks _ _ Has (a, b, d) written
    (λ p w has. let e = only p.0 p.1 p.2 w in none
    (subst (λ n. Has (n, b, d)) e.0 (subst (λ m. Has (p.0, m, d)) e.1 (subst (λ k. Has (p.0, p.1, k)) e.2 has))))

-- `length ns` words have the form of `ns`, whatever they are
as_many : {W : Type 0} (text : W → List ℕ) (words : List W) (ns : List ℕ) → length words ≡ length ns
    → HasForm (map text words) (map num ns)
as_many text [] [] e = tt
as_many text [] (n ∷ ns) e = absurd (omega arith)
as_many text (word ∷ words) [] e = absurd (omega arith)
as_many text (word ∷ words) (n ∷ ns) e = as_many text words ns (omega arith)

-- .. and where they write them, each is one
number_at : {W : Type 0} (text : W → List ℕ) (words : List W) (ns : List ℕ) (i : ℕ) (other : W) → i < length words
    → Writes (map text words) (map num ns) → IsNumber (text (get_or words i other))
number_at text [] ns i other below written = absurd (omega arith)
number_at text (word ∷ words) [] i other below written = absurd written
number_at text (word ∷ words) (n ∷ ns) zero other below written = written.0
number_at text (word ∷ words) (n ∷ ns) (suc i) other below written =
    number_at text words ns i other (omega arith) written.2

-- one of two words is no number, or one of three
pub no_pair : {W : Type 0} (text : W → List ℕ) (words : List W) (i : ℕ) (other : W) (fault : LineFault)
    → length words ≡ 2 → i < length words → ¬ IsNumber (text (get_or words i other)) → fault ≡ line_faults.BadNumber
    → IsFormFaultOf two_parts (map text words) fault
unfolding IsFaultOf
no_pair text words i other fault two below none is =
    subst (IsFormFaultOf two_parts (map text words)) (sym is) (
      ((0, 0), as_many text words (0 ∷ 0 ∷ []) two),
      λ p w. none (number_at text words (p.0 ∷ p.1 ∷ []) i other below w),
    )

pub no_three : {W : Type 0} (text : W → List ℕ) (words : List W) (i : ℕ) (other : W) (fault : LineFault)
    → length words ≡ 3 → i < length words → ¬ IsNumber (text (get_or words i other)) → fault ≡ line_faults.BadNumber
    → IsFormFaultOf three_parts (map text words) fault
unfolding IsFaultOf
no_three text words i other fault three below none is =
    subst (IsFormFaultOf three_parts (map text words)) (sym is) (
      ((0, 0, 0), as_many text words (0 ∷ 0 ∷ 0 ∷ []) three),
      λ p w. none (number_at text words (p.0 ∷ p.1 ∷ p.2 ∷ []) i other below w),
    )
