-- The number of requests that steps make.
use Rattle.std.proofs.Common.{◌≡◌, ℕ, ◌+◌, ◌<◌, ◌≤◌, List, [], ◌∷◌, ◌++◌, length, get_or, take, Bool, true, false, refl}
use Rattle.std.proofs.Common.{arith, IsTrue, ◌↔◌, ap, ◌∙◌, append_assoc, length-append, length-take}
use Rattle.std.proofs.lemmas.List.{take_more}
use mathlib.Core.Bool.{false≢true}
use Rattle.address_map.specs.Place.{line_of, slice_of}
use Rattle.std.proofs.lemmas.Bool.Decides.{nat_tests}
use Rattle.std.proofs.lemmas.Grind.{common_steps}
use Rattle.address_map.specs.declared.config.Config.{Config}
use Rattle.litmus_test.specs.declared.test.Action.{Action}
use Rattle.litmus_test.specs.declared.test.Action.TheVariants as actions
use Rattle.litmus_test.specs.NamedRequest.{requests_in, IsIn}

module _ (c : Config) (slice : ℕ) where
  -- the number that a step makes: one or none
  abbrev pub one_if : Bool → ℕ
  one_if true = 1
  one_if false = 0

  -- steps make no more requests than there are steps
  pub few_requests : (steps : List Action) → length (requests_in c slice steps) ≤ length steps
  few_requests [] = omega arith
  few_requests (actions.Access word op ∷ steps) = grind (arith, common_steps, nat_tests, few_requests steps)
  few_requests (actions.Settle ∷ steps) = omega (arith, few_requests steps)
  few_requests (actions.Evict line ∷ steps) = omega (arith, few_requests steps)

  requests_in-append : (steps more : List Action)
      → requests_in c slice (steps ++ more)
      ≡ requests_in c slice steps ++ requests_in c slice more
  requests_in-append [] more = refl
  requests_in-append (actions.Access word op ∷ steps) more = rw (requests_in-append steps more, append_assoc) refl
  requests_in-append (actions.Settle ∷ steps) more = requests_in-append steps more
  requests_in-append (actions.Evict line ∷ steps) more = requests_in-append steps more

  -- a step makes one request, if it is an access to the slice
  requests_in-one : (step : Action) (b : Bool) → (IsTrue b ↔ IsIn c slice step)
      → length (requests_in c slice (step ∷ [])) ≡ one_if b
  requests_in-one (actions.Access word op) true is = grind (arith, common_steps, nat_tests, is.0 refl)
  requests_in-one (actions.Access word op) false is =
      grind (
        arith,
        common_steps,
        nat_tests,
        λ (same : (slice_of c (line_of word)).0 ≡ slice). false≢true (is.1 same),
      )
  requests_in-one actions.Settle true is = absurd (is.0 refl)
  requests_in-one actions.Settle false is = refl
  requests_in-one (actions.Evict line) true is = absurd (is.0 refl)
  requests_in-one (actions.Evict line) false is = refl

  -- one more step makes one more request, if it is an access to the slice
  pub one_more : (steps : List Action) (step : Action) (b : Bool) → (IsTrue b ↔ IsIn c slice step)
      → length (requests_in c slice (steps ++ step ∷ [])) ≡ length (requests_in c slice steps) + one_if b
  one_more steps step b is =
      ap length (requests_in-append steps (step ∷ [])) ∙ length-append (requests_in c slice steps) _
      ∙ ap (λ n. length (requests_in c slice steps) + n) (requests_in-one step b is)

  -- the count so far goes on to the next step
  pub count_more : (steps : List Action) (i : ℕ) (d : Action) → i < length steps
      → (b : Bool) → (IsTrue b ↔ IsIn c slice (get_or steps i d))
      → length (requests_in c slice (take (i + 1) steps)) ≡ length (requests_in c slice (take i steps)) + one_if b
  count_more steps i d below b is =
      ap (λ front. length (requests_in c slice front)) (take_more steps i d below)
      ∙ one_more (take i steps) (get_or steps i d) b is

  -- so far no more requests than steps
  pub count_fits : (steps : List Action) (i : ℕ) → length (requests_in c slice (take i steps)) ≤ i
  count_fits steps i = omega (arith, few_requests (take i steps), length-take i steps)
