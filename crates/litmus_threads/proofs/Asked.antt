-- The requests that steps make to a slice, step by step, and those that were made.
use Rattle.std.proofs.Common.{◌≡◌, ℕ, zero, suc, ◌+◌, ◌<◌, ◌≤◌, ◌∙◌, List, [], ◌∷◌, ◌++◌, ap, append-nil, append_assoc}
use Rattle.std.proofs.Common.{arith, below_more, get_or, length, refl, subst, sym, take}
use Rattle.std.specs.Prelude.{◌==◌, if◌then◌else◌, IsSomeAnd, slice_get}
use Rattle.std.specs.List.{AllByRecursion}
use Rattle.std.proofs.lemmas.List.{map-append, take_more}
use Rattle.address_map.specs.Place.{line_of, slice_of}
use Rattle.address_map.specs.declared.address.CoreId.{CoreId}
use Rattle.address_map.specs.declared.address.WordAddr.{WordAddr}
use Rattle.address_map.specs.declared.config.Config.{Config}
use Rattle.address_map.specs.declared.request.Op.{Op}
use Rattle.core_thread_system.specs.Core.{CoreView, asked_of}
use Rattle.core_thread_system.specs.Program.{accesses_of}
use Rattle.litmus_test.specs.NamedRequest.{requests_in}
use Rattle.litmus_test.specs.declared.test.Action.{Action}
use Rattle.litmus_test.specs.declared.test.Action.TheVariants as actions
use Rattle.litmus_test.specs.declared.test.Thread.{Thread}
use Rattle.litmus_threads.specs.Made.{HasMadeBelow, HaveMadeAll}
use Rattle.litmus_threads.specs.Threads.{steps_at}
use Rattle.receipt_ledger.specs.declared.receipt.Ask.{Ask}

-- what is found at a place of a list
found-at : {X : Type 0} {A B : X → Type 0} (xs : List X) (i : ℕ) → IsSomeAnd (slice_get xs i) (λ x. A x × B x)
    → (x : X) × (i < length xs) × (get_or xs i x ≡ x) × A x × B x
found-at [] i found = absurd found
found-at (x ∷ xs) zero found = (x, omega arith, refl, found.0, found.1)
found-at (x ∷ xs) (suc i) found =
    let (y, there, is, first, second) = found-at xs i found in (y, omega arith, is, first, second)

-- What was requested at a place is there.
pub asked-inside : (asked : List Ask) (next : ℕ) (word : WordAddr) (op : Op)
    → IsSomeAnd (slice_get asked next) (λ ask. (ask.request.word ≡ word) × (ask.request.op ≡ op)) → next < length asked
asked-inside asked next word op at_next =
    let (ask, there, is, same_word, same_op) = found-at asked next at_next in there

-- steps in a row make the requests of each part
requests-append : (c : Config) (slice : ℕ) (first later : List Action)
    → requests_in c slice (first ++ later) ≡ requests_in c slice first ++ requests_in c slice later
requests-append c slice [] later = refl
requests-append c slice (actions.Access word op ∷ first) later =
    let own : List (WordAddr × Op) = if (slice_of c (line_of word)).0 == slice then (word, op) ∷ [] else [] in
    ap (λ rest. own ++ rest) (requests-append c slice first later)
    ∙ sym (append_assoc own (requests_in c slice first) (requests_in c slice later))
requests-append c slice (actions.Settle ∷ first) later = requests-append c slice first later
requests-append c slice (actions.Evict line ∷ first) later = requests-append c slice first later

-- one more step
requests-more : (c : Config) (slice : ℕ) (steps : List Action) (i : ℕ) (d : Action) (own : List (WordAddr × Op))
    → i < length steps → requests_in c slice (get_or steps i d ∷ []) ≡ own
    → requests_in c slice (take (i + 1) steps) ≡ requests_in c slice (take i steps) ++ own
requests-more c slice steps i d own inside asks =
    ap (requests_in c slice) (take_more steps i d inside)
    ∙ requests-append c slice (take i steps) (get_or steps i d ∷ [])
    ∙ ap (λ more. requests_in c slice (take i steps) ++ more) asks

-- If a step makes no request to the slice, the same was requested before.
pub asked-still : (c : Config) (slice : ℕ) (steps : List Action) (asked : List Ask) (i next : ℕ) (d : Action)
    → i < length steps → requests_in c slice (get_or steps i d ∷ []) ≡ []
    → accesses_of (take next asked) ≡ requests_in c slice (take i steps)
    → accesses_of (take next asked) ≡ requests_in c slice (take (i + 1) steps)
asked-still c slice steps asked i next d inside asks so_far =
    so_far
    ∙ sym (append-nil (requests_in c slice (take i steps)))
    ∙ sym (requests-more c slice steps i d [] inside asks)

-- If it requests an access, and that was requested next, the same holds with one more.
pub asked-more : (c : Config) (slice : ℕ) (steps : List Action) (asked : List Ask) (i next : ℕ) (d : Action)
    (word : WordAddr) (op : Op) → i < length steps → requests_in c slice (get_or steps i d ∷ []) ≡ (word, op) ∷ []
    → IsSomeAnd (slice_get asked next) (λ ask. (ask.request.word ≡ word) × (ask.request.op ≡ op))
    → accesses_of (take next asked) ≡ requests_in c slice (take i steps)
    → (next + 1 ≤ length asked) × (accesses_of (take (next + 1) asked) ≡ requests_in c slice (take (i + 1) steps))
asked-more c slice steps asked i next d word op inside asks at_next so_far =
    let (ask, there, is, same_word, same_op) = found-at asked next at_next in
    let access : Ask → WordAddr × Op = λ a. (a.request.word, a.request.op) in
    let own : access ask ≡ (word, op) =
    ap (λ (w : WordAddr). let p : WordAddr × Op = (w, ask.request.op) in p) same_word
    ∙ ap (λ (o : Op). let p : WordAddr × Op = (word, o) in p) same_op in
    let grown : accesses_of (take (next + 1) asked) ≡ requests_in c slice (take (i + 1) steps) =
    ap accesses_of (take_more asked next ask there ∙ ap (λ (a : Ask). take next asked ++ a ∷ []) is)
    ∙ map-append access (take next asked) (ask ∷ [])
    ∙ ap (λ (xs : List (WordAddr × Op)). xs ++ access ask ∷ []) so_far
    ∙ ap (λ (x : WordAddr × Op). requests_in c slice (take i steps) ++ x ∷ []) own
    ∙ sym (requests-more c slice steps i d ((word, op) ∷ []) inside asks) in
    (omega arith, grown)

-- One more slice accepted exactly the requests of the steps.
pub asked-below : (c config : Config) (limit : ℕ) (steps : List Action) (v : CoreView)
    → HasMadeBelow c limit steps v → config ≡ c
    → accesses_of (asked_of v limit) ≡ requests_in config limit steps → HasMadeBelow c (limit + 1) steps v
asked-below c config limit steps v so_far same made =
    below_more (λ slice. accesses_of (asked_of v slice) ≡ requests_in c slice steps) limit so_far
    (made ∙ ap (λ (k : Config). requests_in k limit steps) same)

-- what holds of each element holds with one more
all-push : {X : Type 0} (P : X → Type 0) (xs : List X) (x : X) → AllByRecursion P xs → P x
    → AllByRecursion P (xs ++ x ∷ [])
all-push P [] x all one = (one, tt)
all-push P (y ∷ xs) x all one = (all.0, all-push P xs x all.1 one)

-- One more core has made its thread's requests.
pub made-more : (c : Config) (threads : List Thread) (cores : List CoreView) (i : ℕ) (v : CoreView) (number : CoreId)
    (steps : List Action) → i < length cores → v ≡ get_or cores i v → number ≡ v.core → steps ≡ steps_at threads number
    → HasMadeBelow c c.slices steps v → HaveMadeAll c threads (take i cores)
    → HaveMadeAll c threads (take (i + 1) cores)
made-more c threads cores i v number steps inside is its are made so_far =
    let P : CoreView → Type 0 = λ w. HasMadeBelow c c.slices (steps_at threads w.core) w in
    let own : P v =
    subst (λ (as_said : List Action). HasMadeBelow c c.slices as_said v) (are ∙ ap (steps_at threads) its) made in
    subst (AllByRecursion P)
    (ap (λ (w : CoreView). take i cores ++ w ∷ []) is ∙ sym (take_more cores i v inside))
    (all-push P (take i cores) v so_far own)
