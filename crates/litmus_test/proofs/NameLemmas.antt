-- By the invariant of a litmus test each name has a request.
use Rattle.std.proofs.Common.{zero, suc, ◌≡◌, ℕ, ◌<◌, List, [], ◌∷◌, length, true, IsSome, Some, refl, sym, subst}
use Rattle.std.proofs.Common.{arith}
use mathlib.Core.Bool.{true≢false}
use Rattle.std.specs.List.{All, slice_get}
use Rattle.std.proofs.lemmas.List.Elements.{All-get_or}
use Rattle.std.proofs.lemmas.Option.{get_or_from_slice_get, slice_get_within}
use Rattle.address_map.specs.declared.config.Config.{Config}
use Rattle.litmus_test.specs.Sound.{IsReplyOf, reads_value}
use Rattle.litmus_test.specs.declared.test.Action.{Action}
use Rattle.litmus_test.specs.declared.test.Action.TheVariants as actions
use Rattle.litmus_test.specs.declared.test.LitmusTest.{LitmusTest}
use Rattle.litmus_test.specs.declared.test.Thread.{Thread}
use Rattle.litmus_test.specs.NamedRequest.{request_of, named_request_of}

-- there is an element at each place of a list
element_at : {X : Type 0} (xs : List X) (k : ℕ) → k < length xs → (x : X) × (slice_get xs k ≡ Some x)
element_at [] k within = absurd (omega (arith, within))
element_at (x ∷ xs) zero within = (x, refl)
element_at (x ∷ xs) (suc k) within = element_at xs k (omega (arith, within))

-- what holds of all holds of the element at a place
holds_at : {X : Type 0} (P : X → Type 0) (xs : List X) (k : ℕ) (x : X) → slice_get xs k ≡ Some x → All P xs → P x
holds_at P xs k x is all =
    subst P (get_or_from_slice_get xs k x x is) (All-get_or P xs k x (slice_get_within xs k x is) all)

-- a step that receives a value makes a request
makes_request : (c : Config) (thread : Thread) (step : ℕ) (action : Action) → reads_value action ≡ true
    → IsSome (request_of c thread step action)
makes_request c thread step (actions.Access word op) reads = refl
makes_request c thread step actions.Settle reads = absurd (true≢false (sym reads))
makes_request c thread step (actions.Evict line) reads = absurd (true≢false (sym reads))

-- so does the step of each name
pub each_name_has_request : (test : LitmusTest) (name : ℕ) → name < length test.names.items
    → IsSome (named_request_of test name)
each_name_has_request test name within =
    let named = element_at test.names.items name within in
    let right = holds_at (IsReplyOf test.threads.items) test.names.items name named.0 named.1 test.sound.replies in
    let thread = element_at test.threads.items named.0.thread right.thread in
    let below = right.step thread.0 thread.1 in
    let action = element_at thread.0.steps.items named.0.step
    (subst (λ n. named.0.step < n) thread.0.steps.ok.0 below) in
    rw (named.1, thread.1, action.1)
    (makes_request test.config thread.0 named.0.step action.0 (right.reads thread.0 action.0 thread.1 action.1))
