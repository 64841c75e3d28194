-- The victim of a set, from the slot that the policy chose.
use Rattle.std.proofs.Common.{◌≡◌, ◌≢◌, ℕ, ◌+◌, ◌%◌, ◌<◌, Bool, true, false, cond, ◌||◌, ◌↔◌, List, [], ◌∷◌, length}
use Rattle.std.proofs.Common.{take, get_or, zero, suc, refl, ap, sym, ◌∙◌, subst, Option, Some, None, is_some}
use Rattle.std.proofs.Common.{option_map, find, slice_get, All, eq-eqb, IfSome, IsSomeAnd, MatchOption}
use Rattle.std.specs.List.{AllZip, list_any}
use Rattle.std.proofs.lemmas.Bool.{ne_eqb}
use Rattle.std.proofs.lemmas.Grind.{take_at_read}
use Rattle.std.proofs.lemmas.List.Elements.{All-head, All-tail, All-cons, All-nil}
use Rattle.std.proofs.lemmas.List.Folds.{list_any-append, list_any_at}
use Rattle.std.proofs.lemmas.Option.{get_or_from_slice_get, slice_get_within}
use Rattle.address_map.specs.declared.address.Local.{Local}
use Rattle.cache_array.specs.declared.set.Slot.{Slot}
use Rattle.cache_array.specs.History.{Event}
use Rattle.cache_array.specs.Policy.{IsAllowed, IsPreferred}
use Rattle.cache_array.specs.Set.{SetView, empty_set, holds, lines_of, value_in}
use Rattle.cache_array.specs.Array.{ArrayView, set_index, slots_at, held_at, IsArray}
use Rattle.cache_array.specs.Victim.{Answers, flags_of, line_in, some_may_go, ShareSet, NoneMayGo, IsVictim}
use Rattle.cache_array.proofs.Orders.{AreApart, AllPairs-head, AllPairs-tail, same_line}
use Rattle.cache_array.proofs.Sets.{its_set, slots_read}

-- the answers of a closure are its test's
pub flags_are : {V : Type 0} (says : V → Bool → Type 0) (test : V → Bool) → Answers says test →
    (slots : List (Slot V)) (flags : List Bool) → AllZip (λ slot flag. says slot.value flag) slots flags →
    flags ≡ flags_of test slots
flags_are says test answers [] [] asked = refl
flags_are says test answers [] (flag ∷ flags) asked = absurd asked
flags_are says test answers (slot ∷ slots) [] asked = absurd asked
flags_are says test answers (slot ∷ slots) (flag ∷ flags) asked =
    let here = answers slot.value flag asked.0 in
    let rest = flags_are says test answers slots flags asked.1 in
    cc

-- where no flag is up, no value may go
none_passes : {V : Type 0} (test : V → Bool) (slots : List (Slot V)) (line : Local) →
    All (λ may_go. may_go ≡ false) (flags_of test slots) → IfSome (value_in slots line) (λ value. test value ≡ false)
none_passes test [] line none = tt
none_passes {V = V} test (slot ∷ slots) line none =
    by (holds line slot) (All-head (λ may_go. may_go ≡ false) (test slot.value) (flags_of test slots) none)
    (none_passes test slots line (All-tail (λ may_go. may_go ≡ false) (test slot.value) (flags_of test slots) none))
  where
    by : (b : Bool) → test slot.value ≡ false → IfSome (value_in slots line) (λ value. test value ≡ false) →
        IfSome (option_map (λ (s : Slot V). s.value) (cond b (Some slot) (find (holds line) slots)))
        (λ value. test value ≡ false)
    by true here rest = here
    by false here rest = rest

-- a flag that is up is that of a slot
flagged : {V : Type 0} (test : V → Bool) (slots : List (Slot V)) (way : ℕ) →
    slice_get (flags_of test slots) way ≡ Some true →
    (slot : Slot V) × (slice_get slots way ≡ Some slot) × (test slot.value ≡ true)
flagged test [] way e = cc
flagged test (slot ∷ slots) zero e = (slot, refl, cc)
flagged test (slot ∷ slots) (suc way) e = flagged test slots way e

line_place : {V : Type 0} (slots : List (Slot V)) (way : ℕ) (slot : Slot V) → slice_get slots way ≡ Some slot →
    slice_get (lines_of slots) way ≡ Some slot.line
line_place [] way slot e = cc
line_place {V = V} (first ∷ slots) zero slot e = let same : first ≡ slot = cc in ap (λ (s : Slot V). Some s.line) same
line_place (first ∷ slots) (suc way) slot e = line_place slots way slot e

value_place : {V : Type 0} (slots : List (Slot V)) (way : ℕ) (slot : Slot V) → AreApart (lines_of slots) →
    slice_get slots way ≡ Some slot → value_in slots slot.line ≡ Some slot.value
value_place [] way slot apart e = cc
value_place {V = V} (first ∷ slots) zero slot apart e =
    let same : first ≡ slot = cc in
    let here : holds slot.line first ≡ true = eq-eqb first.line.0 slot.line.0 (ap (λ (s : Slot V). s.line.0) same) in
    rw here (ap (λ (s : Slot V). Some s.value) same)
value_place {V = V} (first ∷ slots) (suc way) slot apart e =
    let at = line_place slots way slot e in
    let same : get_or (lines_of slots) way slot.line ≡ slot.line =
    get_or_from_slice_get (lines_of slots) way slot.line slot.line at in
    let other : first.line.0 ≢ slot.line.0 =
    subst (λ (l : Local). first.line.0 ≢ l.0) same
    (AllPairs-head (λ line later. line.0 ≢ later.0) first.line (lines_of slots) apart way slot.line
    (slice_get_within (lines_of slots) way slot.line at)) in
    let no : holds slot.line first ≡ false = ne_eqb first.line.0 slot.line.0 other in
    rw no (value_place slots way slot
    (AllPairs-tail (λ line later. line.0 ≢ later.0) first.line (lines_of slots) apart) e)

-- a value that may go has its flag up, at the place of its line
flag_of : {V : Type 0} (test : V → Bool) (slots : List (Slot V)) (line : Local) →
    IsSomeAnd (value_in slots line) (λ value. test value ≡ true) →
    (way : ℕ) × (slice_get (lines_of slots) way ≡ Some line) × (slice_get (flags_of test slots) way ≡ Some true)
flag_of test [] line passes = absurd passes
flag_of {V = V} test (slot ∷ slots) line passes = by (holds line slot) refl passes (flag_of test slots line)
  where
    by : (b : Bool) → holds line slot ≡ b →
        IsSomeAnd (option_map (λ (s : Slot V). s.value) (cond b (Some slot) (find (holds line) slots))) (λ value.
        test value ≡ true) →
        (IsSomeAnd (value_in slots line) (λ value. test value ≡ true) →
        (way : ℕ) × (slice_get (lines_of slots) way ≡ Some line)
        × (slice_get (flags_of test slots) way ≡ Some true)) →
        (way : ℕ) × (slice_get (slot.line ∷ lines_of slots) way ≡ Some line)
        × (slice_get (test slot.value ∷ flags_of test slots) way ≡ Some true)
    by true is here rest = (0, ap Some (same_line line slot.line is), ap Some here)
    by false is here rest = let later = rest here in (suc later.0, later.1, later.2)

-- none of the slots so far may go, nor the next
pub none_so_far : {V : Type 0} (test : V → Bool) (slots : List (Slot V)) (i : ℕ) (slot : Slot V) → i < length slots →
    slot ≡ get_or slots i slot → some_may_go test (take i slots) ≡ false → test slot.value ≡ false →
    some_may_go test (take (i + 1) slots) ≡ false
none_so_far {V = V} test slots i slot within is none here =
    let may_go = λ (s : Slot V). test s.value in
    ap (list_any may_go) (take_at_read slots i slot within).1
    ∙ list_any-append may_go (take i slots) (get_or slots i slot ∷ [])
    ∙ rw (none, ← is, here) refl

-- a slot may go
pub one_may_go : {V : Type 0} (test : V → Bool) (slots : List (Slot V)) (i : ℕ) (slot : Slot V) → i < length slots →
    slot ≡ get_or slots i slot → test slot.value ≡ true → some_may_go test slots ≡ true
one_may_go {V = V} test slots i slot within is here =
    list_any_at (λ (s : Slot V). test s.value) slots i slot within (ap (λ (s : Slot V). test s.value) (sym is) ∙ here)

-- two lines of one set see the same slots
shared : {V P : Type 0} (array : ArrayView V P) (line other : Local) → ShareSet array line other →
    slots_at array other ≡ slots_at array line
shared array line other same = ap (λ i. (get_or array.sets i (empty_set 0)).slots) same

-- a slot of the line's set holds a line of that set, with its value
pub slot_held : {V P : Type 0} (array : ArrayView V P) (line : Local) (way : ℕ) (slot : Slot V) → IsArray array →
    slice_get (slots_at array line) way ≡ Some slot →
    ShareSet array line slot.line × (held_at array slot.line ≡ Some slot.value)
slot_held {V = V} array line way slot sound at =
    let slots = slots_at array line in
    let its = its_set array line sound in
    let named = line_place slots way slot at in
    let within = slice_get_within (lines_of slots) way slot.line named in
    let same : ShareSet array line slot.line =
    subst (λ (l : Local). l.0 % length array.sets ≡ set_index array line)
    (get_or_from_slice_get (lines_of slots) way slot.line slot.line named)
    (its.its_own way slot.line within) in
    let value = value_place slots way slot its.distinct at in
    (same, ap (λ s. value_in s slot.line) (shared array line slot.line same) ∙ value)

-- some slot may go where one's flag is up, and none where none is
some_flagged : {V : Type 0} (test : V → Bool) (slots : List (Slot V)) (way : ℕ) →
    slice_get (flags_of test slots) way ≡ Some true → some_may_go test slots ≡ true
some_flagged test [] way e = cc
some_flagged test (slot ∷ slots) zero e = let here : test slot.value ≡ true = cc in rw here refl
some_flagged test (slot ∷ slots) (suc way) e = by (test slot.value) (some_flagged test slots way e)
  where
    by : (b : Bool) → some_may_go test slots ≡ true → (b || some_may_go test slots) ≡ true
    by true rest = refl
    by false rest = rest

none_flagged : {V : Type 0} (test : V → Bool) (slots : List (Slot V)) →
    All (λ may_go. may_go ≡ false) (flags_of test slots) → some_may_go test slots ≡ false
none_flagged test [] none = refl
none_flagged test (slot ∷ slots) none =
    rw (All-head (λ may_go. may_go ≡ false) (test slot.value) (flags_of test slots) none)
    (none_flagged test slots (All-tail (λ may_go. may_go ≡ false) (test slot.value) (flags_of test slots) none))

flags_down : {V : Type 0} (test : V → Bool) (slots : List (Slot V)) → some_may_go test slots ≡ false →
    All (λ may_go. may_go ≡ false) (flags_of test slots)
flags_down test [] none = All-nil (λ may_go. may_go ≡ false)
flags_down test (slot ∷ slots) none = by (test slot.value) none (flags_down test slots)
  where
    by : (b : Bool) → (b || some_may_go test slots) ≡ false →
        (some_may_go test slots ≡ false → All (λ may_go. may_go ≡ false) (flags_of test slots)) →
        All (λ may_go. may_go ≡ false) (b ∷ flags_of test slots)
    by true e rest = cc
    by false e rest = All-cons (λ may_go. may_go ≡ false) false (flags_of test slots) refl (rest e)

flag_up : {V : Type 0} (test : V → Bool) (slots : List (Slot V)) → some_may_go test slots ≡ true →
    (way : ℕ) × (slice_get (flags_of test slots) way ≡ Some true)
flag_up test [] some = cc
flag_up test (slot ∷ slots) some = by (test slot.value) some (flag_up test slots)
  where
    by : (b : Bool) → (b || some_may_go test slots) ≡ true →
        (some_may_go test slots ≡ true → (way : ℕ) × (slice_get (flags_of test slots) way ≡ Some true)) →
        (way : ℕ) × (slice_get (b ∷ flags_of test slots) way ≡ Some true)
    by true e rest = (0, refl)
    by false e rest = let later = rest e in (suc later.0, later.1)

-- no slot of the line's set may go exactly where no line of that set may
pub none_may_go : {V P : Type 0} (array : ArrayView V P) (line : Local) (test : V → Bool) → IsArray array →
    (some_may_go test (slots_at array line) ≡ false) ↔ NoneMayGo test array line
none_may_go {V = V} array line test sound = (
  (λ none other same.
      subst (λ slots. IfSome (value_in slots other) (λ value. test value ≡ false)) (sym (shared array line other same))
      (none_passes test (slots_at array line) other (flags_down test (slots_at array line) none))),
  (λ none. by none (some_may_go test (slots_at array line)) refl),
)
  where
    by : NoneMayGo test array line → (b : Bool) → some_may_go test (slots_at array line) ≡ b → b ≡ false
    by none true some =
        let up = flag_up test (slots_at array line) some in
        let found = flagged test (slots_at array line) up.0 up.1 in
        let held = slot_held array line up.0 found.0 sound found.1 in
        let down : test found.0.value ≡ false =
        subst (λ o. IfSome o (λ value. test value ≡ false)) held.1 (none found.0.line held.0) in
        cc
    by none false some = refl

-- a victim is chosen exactly where some slot may go
victim_chosen : {V : Type 0} (test : V → Bool) (slots : List (Slot V)) (chosen : Option ℕ) →
    IsAllowed (flags_of test slots) chosen → is_some (line_in slots chosen) ≡ some_may_go test slots
victim_chosen test slots None allowed = sym (none_flagged test slots allowed)
victim_chosen {V = V} test slots (Some way) allowed =
    let found = flagged test slots way allowed in
    ap (λ (o : Option (Slot V)). is_some (option_map (λ (s : Slot V). s.line) o)) found.1
    ∙ sym (some_flagged test slots way allowed)

-- the line in the slot that was chosen is the victim
pub victim_is : {V P : Type 0} (array : ArrayView V P) (line : Local) (test : V → Bool) (moves : Bool)
    (prefers : List Event → Local → Local → Type 0) (chosen : Option ℕ) →
    IsArray array → IsAllowed (flags_of test (slots_at array line)) chosen →
    IfSome chosen (IsPreferred moves prefers (flags_of test (slots_at array line))) →
    MatchOption (line_in (slots_at array line) chosen) (NoneMayGo test array line)
    (IsVictim test moves prefers array line)
victim_is array line test moves prefers None sound allowed preferred =
    λ other same.
    subst (λ slots. IfSome (value_in slots other) (λ value. test value ≡ false)) (sym (shared array line other same))
    (none_passes test (slots_at array line) other allowed)
victim_is {V = V} {P = P} array line test moves prefers (Some way) sound allowed preferred =
    let found = flagged test (slots_at array line) way allowed in
    subst (λ victim. MatchOption victim (NoneMayGo test array line) (IsVictim test moves prefers array line))
    (sym (ap (option_map (λ (s : Slot V). s.line)) found.1))
    (chosen found.0 found.1 found.2)
  where
    slots : List (Slot V)
    slots = slots_at array line

    chosen : (slot : Slot V) → slice_get (slots_at array line) way ≡ Some slot → test slot.value ≡ true →
        IsVictim test moves prefers array line slot.line
    chosen slot at passes =
        let named = line_place (slots_at array line) way slot at in
        let held = slot_held array line way slot sound at in record {
          same_set = held.0;
          may_go = subst (λ o. IsSomeAnd o (λ v. test v ≡ true)) (sym held.1) passes;
          preferred =
              λ history other order shares may_go apart.
              let up = flag_of test (slots_at array line) other
              (subst (λ s. IsSomeAnd (value_in s other) (λ v. test v ≡ true)) (shared array line other shares) may_go)
              in
              preferred history up.0 slot.line other
              (ap (λ ls. slice_get ls way) (sym order) ∙ named)
              (ap (λ ls. slice_get ls up.0) (sym order) ∙ up.1)
              up.2
              (λ e. apart
              (two (slice_get (lines_of (slots_at array line)) way)
              (sym (ap (λ k. slice_get (lines_of (slots_at array line)) k) e) ∙ up.1) named));
        }
      where
        two : (o : Option Local) {a b : Local} → o ≡ Some a → o ≡ Some b → a.0 ≡ b.0
        two o {a = a} {b = b} e f = let same : a ≡ b = cc in ap (λ (l : Local). l.0) same

-- whether some line of an array may go, in terms of the set that was read
pub some_read : {V P : Type 0} (inside now : ArrayView V P) (line : Local) (index : ℕ) (found : SetView V)
    (test : V → Bool) (some : Bool) → inside ≡ now → IsArray inside → index ≡ set_index now line →
    found ≡ get_or inside.sets index found →
    some ≡ some_may_go test found.slots → some ≡ some_may_go test (slots_at now line)
some_read {V = V} inside now line index found test some e sound at is f =
    f ∙ ap (λ (s : List (Slot V)). some_may_go test s) (slots_read inside now line index found e sound at is)

-- the victim of an array, in terms of the set that was read
pub choice_read : {V P : Type 0} (inside now : ArrayView V P) (line : Local) (index : ℕ) (found : SetView V)
    (says : V → Bool → Type 0) (test : V → Bool) (choose : P → List Bool → Option ℕ) (flags : List Bool)
    (victim : Option Local) →
    inside ≡ now → IsArray inside → index ≡ set_index now line → found ≡ get_or inside.sets index found →
    Answers says test → AllZip (λ slot flag. says slot.value flag) found.slots flags →
    victim ≡ line_in found.slots (choose inside.policy flags) →
    victim ≡ line_in (slots_at now line) (choose now.policy (flags_of test (slots_at now line)))
choice_read {V = V} {P = P} inside now line index found says test choose flags victim e sound at is answers asked f =
    let slots = slots_read inside now line index found e sound at is in
    let told = flags_are says test answers found.slots flags asked in
    f
    ∙ ap (λ fs. line_in found.slots (choose inside.policy fs)) told
    ∙ ap (λ (s : List (Slot V)). line_in s (choose inside.policy (flags_of test s))) slots
    ∙ ap (λ (a : ArrayView V P). line_in (slots_at now line) (choose a.policy (flags_of test (slots_at now line)))) e

pub victim_read : {V P : Type 0} (inside now : ArrayView V P) (line : Local) (index : ℕ) (found : SetView V)
    (says : V → Bool → Type 0) (test : V → Bool) (choose : P → List Bool → Option ℕ) (moves : P → Bool)
    (prefers : P → List Event → Local → Local → Type 0) (flags : List Bool) (victim : Option Local) →
    inside ≡ now → IsArray inside → index ≡ set_index now line → found ≡ get_or inside.sets index found →
    Answers says test → AllZip (λ slot flag. says slot.value flag) found.slots flags →
    IsAllowed flags (choose inside.policy flags) →
    IfSome (choose inside.policy flags) (IsPreferred (moves inside.policy) (prefers inside.policy) flags) →
    victim ≡ line_in found.slots (choose inside.policy flags) →
    MatchOption victim (NoneMayGo test now line) (IsVictim test (moves now.policy) (prefers now.policy) now line)
victim_read {V = V} {P = P} inside now line index found says test choose moves prefers flags victim e sound at is
    answers asked allowed preferred f =
    let slots = slots_read inside now line index found e sound at is in
    let told : flags ≡ flags_of test (slots_at now line) =
    flags_are says test answers found.slots flags asked ∙ ap (λ (s : List (Slot V)). flags_of test s) slots in
    let policy : inside.policy ≡ now.policy = ap (λ (a : ArrayView V P). a.policy) e in
    let may_go : IsAllowed (flags_of test (slots_at now line)) (choose now.policy (flags_of test (slots_at now line))) =
    subst (λ p. IsAllowed (flags_of test (slots_at now line)) (choose p (flags_of test (slots_at now line)))) policy
    (subst (λ fs. IsAllowed fs (choose inside.policy fs)) told allowed) in
    let best : IfSome (choose now.policy (flags_of test (slots_at now line)))
    (IsPreferred (moves now.policy) (prefers now.policy) (flags_of test (slots_at now line))) =
    subst (λ p. IfSome (choose p (flags_of test (slots_at now line)))
    (IsPreferred (moves p) (prefers p) (flags_of test (slots_at now line)))) policy
    (subst (λ fs. IfSome (choose inside.policy fs) (IsPreferred (moves inside.policy) (prefers inside.policy) fs)) told
    preferred) in
    subst (λ v. MatchOption v (NoneMayGo test now line)
    (IsVictim test (moves now.policy) (prefers now.policy) now line))
    (sym (choice_read inside now line index found says test choose flags victim e sound at is answers asked f))
    (victim_is now line test (moves now.policy) (prefers now.policy)
    (choose now.policy (flags_of test (slots_at now line))) (subst IsArray e sound) may_go best)

pub victim_some : {V P : Type 0} (inside now : ArrayView V P) (line : Local) (index : ℕ) (found : SetView V)
    (says : V → Bool → Type 0) (test : V → Bool) (chosen : Option ℕ) (flags : List Bool) (victim : Option Local) →
    inside ≡ now → IsArray inside → index ≡ set_index now line → found ≡ get_or inside.sets index found →
    Answers says test → AllZip (λ slot flag. says slot.value flag) found.slots flags → IsAllowed flags chosen →
    victim ≡ line_in found.slots chosen → is_some victim ≡ some_may_go test (slots_at now line)
victim_some {V = V} inside now line index found says test chosen flags victim e sound at is answers asked allowed f =
    let told = flags_are says test answers found.slots flags asked in
    ap is_some f
    ∙ victim_chosen test found.slots chosen (subst (λ fs. IsAllowed fs chosen) told allowed)
    ∙ ap (λ (s : List (Slot V)). some_may_go test s) (slots_read inside now line index found e sound at is)
