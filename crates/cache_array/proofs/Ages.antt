-- The order of a set's lines is the order of their last uses, or where uses move nothing, of their insertions.
use Rattle.std.proofs.Common.{◌≡◌, ℕ, ◌+◌, ◌<◌, ◌≤◌, Bool, true, false, cond, not, List, [], ◌∷◌, ◌++◌, get_or, refl}
use Rattle.std.proofs.Common.{ap, ◌∙◌, arith, inl, inr, Option, Some, None, option_to_list, find, All, AllPairs}
use Rattle.std.proofs.Common.{append-nil, ◌⊎◌, IfSome}
use Rattle.std.specs.Set.{remove_key}
use Rattle.std.proofs.lemmas.Bool.{cases_lt}
use Rattle.std.proofs.lemmas.List.Quantifiers.{all_pairs_push, position-Some}
use Rattle.std.proofs.lemmas.Option.{get_or_from_slice_get, slice_get_within}
use Rattle.address_map.specs.declared.address.Local.{Local}
use Rattle.address_map.specs.declared.config.PolicyKind.{PolicyKind}
use Rattle.address_map.specs.declared.config.PolicyKind.TheVariants.{Lru, Fifo, Random}
use Rattle.cache_array.proofs.Orders.{AllPairs-remove_key, TellsApart, gone, its_own, found_passes}
use Rattle.cache_array.specs.History.{Event, is_line, moved_to_end, order_after, events_since_insertion}
use Rattle.cache_array.specs.History.{events_since_use}
use Rattle.cache_array.specs.History.Event.{Inserted, Used, Removed}
use Rattle.cache_array.specs.Policy.{IsPreferred, prefers_of, moves_of, choice_of, picked_by, first_allowed}

-- a line is older than another
abbrev pub IsOlder : (Local → ℕ) → Local → Local → Type 0
IsOlder age line other = age other < age line

-- each line is older than all after it
abbrev pub IsByAge : (Local → ℕ) → List Local → Type 0
IsByAge age order = AllPairs (IsOlder age) order

older_apart : (age : Local → ℕ) → TellsApart (IsOlder age)
older_apart age line other younger e =
    let named : ℕ → Local = λ n. record { 0 = n } in
    absurd (omega (arith, ap (λ n. age (named n)) e))

-- all lines are one event older
aged : (age next : Local → ℕ) (xs : List Local) → All (λ line. next line ≡ 1 + age line) xs → IsByAge age xs →
    IsByAge next xs
aged age next xs each order i j d lt within =
    omega (arith, each i d (omega arith), each j d within, order i j d lt within)

-- and one line follows the others, and is new
pub came_last : (age next : Local → ℕ) (line newest : Local) (xs : List Local) → is_line line newest ≡ true →
    ((other : Local) → next other ≡ cond (not (is_line line other)) (1 + age other) 0) → IsByAge age xs →
    IsByAge next (remove_key (is_line line) xs ++ newest ∷ [])
came_last age next line newest xs is ages order =
    let others : List Local = remove_key (is_line line) xs in
    let older : All (λ other. next other ≡ 1 + age other) others =
    λ k d within. ages (get_or others k d)
    ∙ ap (λ b. cond (not b) (1 + age (get_or others k d)) 0)
    (gone (IsOlder age) (older_apart age) line xs order k d within) in
    let new : next newest ≡ 0 = ages newest ∙ ap (λ b. cond (not b) (1 + age newest) 0) is in
    all_pairs_push (IsOlder next) others newest
    (aged age next others older (AllPairs-remove_key (IsOlder age) (is_line line) xs order))
    (λ k d within. omega (arith, new, older k d within))

-- a use moves a line that is there to the end, and it is new
pub moved_last : (age next : Local → ℕ) (line : Local) (xs : List Local) →
    ((other : Local) → next other ≡ cond (not (is_line line other)) (1 + age other) 0) → IsByAge age xs →
    IsByAge next (moved_to_end (is_line line) xs)
moved_last age next line xs ages order = by (find (is_line line) xs) refl
  where
    by : (found : Option Local) → find (is_line line) xs ≡ found →
        IsByAge next (remove_key (is_line line) xs ++ option_to_list found)
    by None e =
        let others : List Local = remove_key (is_line line) xs in
        let older : All (λ other. next other ≡ 1 + age other) others =
        λ k d within. ages (get_or others k d)
        ∙ ap (λ b. cond (not b) (1 + age (get_or others k d)) 0)
        (gone (IsOlder age) (older_apart age) line xs order k d within) in
        rw append-nil (aged age next others older (AllPairs-remove_key (IsOlder age) (is_line line) xs order))
    by (Some newest) e = came_last age next line newest xs (found_passes (is_line line) xs newest e) ages order

-- where uses move lines, a set's order is that of their last uses
pub by_use : (history : List Event) → IsByAge (events_since_use history) (order_after true history)
by_use [] = λ i j d lt within. absurd (omega arith)
by_use (Inserted line ∷ earlier) =
    came_last (events_since_use earlier) (events_since_use (Inserted line ∷ earlier)) line line
    (order_after true earlier) (its_own line) (λ other. refl) (by_use earlier)
by_use (Used line ∷ earlier) =
    moved_last (events_since_use earlier) (events_since_use (Used line ∷ earlier)) line (order_after true earlier)
    (λ other. refl) (by_use earlier)
by_use (Removed line ∷ earlier) =
    let order = order_after true earlier in
    aged (events_since_use earlier) (events_since_use (Removed line ∷ earlier)) (remove_key (is_line line) order)
    (λ k d within. refl)
    (AllPairs-remove_key (IsOlder (events_since_use earlier)) (is_line line) order (by_use earlier))

-- where they move nothing, it is that of their insertions
pub by_insertion : (history : List Event) → IsByAge (events_since_insertion history) (order_after false history)
by_insertion [] = λ i j d lt within. absurd (omega arith)
by_insertion (Inserted line ∷ earlier) =
    came_last (events_since_insertion earlier) (events_since_insertion (Inserted line ∷ earlier)) line line
    (order_after false earlier) (its_own line) (λ other. refl) (by_insertion earlier)
by_insertion (Used line ∷ earlier) =
    aged (events_since_insertion earlier) (events_since_insertion (Used line ∷ earlier)) (order_after false earlier)
    (λ k d within. refl) (by_insertion earlier)
by_insertion (Removed line ∷ earlier) =
    let order = order_after false earlier in
    aged (events_since_insertion earlier) (events_since_insertion (Removed line ∷ earlier))
    (remove_key (is_line line) order) (λ k d within. refl)
    (AllPairs-remove_key (IsOlder (events_since_insertion earlier)) (is_line line) order (by_insertion earlier))

-- the first slot that may go has the oldest line of those that may
oldest_first : (moves : Bool) (since : List Event → Local → ℕ) →
    ((history : List Event) → IsByAge (since history) (order_after moves history)) →
    (allowed : List Bool) (chosen : ℕ) → first_allowed allowed ≡ Some chosen →
    IsPreferred moves (λ history line other. since history other < since history line) allowed chosen
oldest_first moves since ages allowed chosen e history slot line other at_chosen at_slot may_go apart =
    let order = order_after moves history in
    let first = position-Some (λ b. b) allowed chosen false e in
    let behind : chosen < slot = by (cases_lt slot chosen) first.2 in
    let younger = ages history chosen slot line behind (slice_get_within order slot other at_slot) in
    rw (get_or_from_slice_get order chosen line line at_chosen, get_or_from_slice_get order slot other line at_slot) at
    younger
  where
    by : (slot < chosen) ⊎ (chosen ≤ slot) → ((k : ℕ) → k < chosen → get_or allowed k false ≡ false) → chosen < slot
    by (inl before) none =
        let no = none slot before in
        let yes = get_or_from_slice_get allowed slot true false may_go in
        absurd cc
    by (inr past) none = omega arith

-- each policy prefers the line that it evicts
pub choice_is_preferred : (policy : PolicyKind) (allowed : List Bool) (word : ℕ) →
    IfSome (choice_of policy allowed word) (IsPreferred (moves_of policy) (prefers_of policy) allowed)
choice_is_preferred Lru allowed word = by (first_allowed allowed) refl
  where
    by : (chosen : Option ℕ) → first_allowed allowed ≡ chosen →
        IfSome chosen (IsPreferred true (prefers_of Lru) allowed)
    by None e = tt
    by (Some chosen) e = oldest_first true events_since_use by_use allowed chosen e
choice_is_preferred Fifo allowed word = by (first_allowed allowed) refl
  where
    by : (chosen : Option ℕ) → first_allowed allowed ≡ chosen →
        IfSome chosen (IsPreferred false (prefers_of Fifo) allowed)
    by None e = tt
    by (Some chosen) e = oldest_first false events_since_insertion by_insertion allowed chosen e
choice_is_preferred (Random seed) allowed word = by (picked_by allowed word)
  where
    by : (chosen : Option ℕ) → IfSome chosen (IsPreferred false (prefers_of (Random seed)) allowed)
    by None = tt
    by (Some chosen) = λ history slot line other at_chosen at_slot may_go apart. tt
