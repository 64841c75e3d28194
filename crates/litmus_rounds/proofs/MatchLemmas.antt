-- Lists that match still match with one more item each; and what doesn't match.
use Rattle.std.proofs.Common.{ℕ, zero, suc, ◌+◌, ◌/◌, ◌%◌, ◌<◌, Option, Some, None, arith, List, [], ◌∷◌, ◌++◌, length}
use Rattle.std.proofs.Common.{get_or, take, append_assoc, ap, sym, subst, ◌∙◌}
use Rattle.std.proofs.lemmas.List.{append-nil, take_more}
use Rattle.std.proofs.lemmas.List.Elements.{All-contains}
use Rattle.address_map.specs.declared.address.WordAddr.{WordAddr}
use Rattle.address_map.specs.declared.config.Config.{Config}
use Rattle.litmus_test.specs.NamedRequest.{IsOf}
use Rattle.litmus_test.specs.declared.outcomes.named_request.NamedRequest.{NamedRequest}
use Rattle.litmus_script.specs.Machine.{IsShownWord, log_at}
use Rattle.slice_core_spec.specs.Calls.{PartsView}
use Rattle.litmus_rounds.specs.Outcome.{AddsMatch, HasReply, HasWord, LacksReply, Match}

pub match_push : {X : Type 0} (P : X → ℕ → Type 0) (xs : List X) (values : List ℕ) (x : X) (value : ℕ)
    → Match P xs values
    → P x value → Match P (xs ++ x ∷ []) (values ++ value ∷ [])
match_push P [] [] x value all one = (one, tt)
match_push P [] (v ∷ vs) x value all one = absurd all
match_push P (y ∷ ys) [] x value all one = absurd all
match_push P (y ∷ ys) (v ∷ vs) x value all one = (all.0, match_push P ys vs x value all.1 one)

-- no value was added
pub adds_none : {X : Type 0} (P : X → ℕ → Type 0) (values : List ℕ) → AddsMatch P [] values values
adds_none P values = record { values = []; added = sym (append-nil values); each = tt }

-- one more was added
pub adds_push : {X : Type 0} (P : X → ℕ → Type 0) (xs : List X) (old new : List ℕ) (x : X) (value : ℕ)
    → AddsMatch P xs old new
    → P x value → AddsMatch P (xs ++ x ∷ []) old (new ++ value ∷ [])
adds_push P xs old new x value adds one = record {
  values = adds.values ++ value ∷ [];
  added = ap (λ all. all ++ value ∷ []) adds.added ∙ append_assoc old adds.values (value ∷ []);
  each = match_push P xs adds.values x value adds.each one;
}

-- the next of a list matches, after those before it
pub match_next : {X : Type 0} (P : X → ℕ → Type 0) (xs : List X) (i : ℕ) (d : X) (values : List ℕ) (value : ℕ)
    → Match P (take i xs) values → P (get_or xs i d) value → i < length xs
    → Match P (take (i + 1) xs) (values ++ value ∷ [])
match_next P xs i d values value all one within =
    subst (λ taken. Match P taken (values ++ value ∷ [])) (sym (take_more xs i d within))
    (match_push P (take i xs) values (get_or xs i d) value all one)

pub adds_next : {X : Type 0} (P : X → ℕ → Type 0) (xs : List X) (i : ℕ) (d : X) (old new : List ℕ) (value : ℕ)
    → AddsMatch P (take i xs) old new → P (get_or xs i d) value → i < length xs
    → AddsMatch P (take (i + 1) xs) old (new ++ value ∷ [])
adds_next P xs i d old new value adds one within =
    subst (λ taken. AddsMatch P taken old (new ++ value ∷ [])) (sym (take_more xs i d within))
    (adds_push P (take i xs) old new (get_or xs i d) value adds one)

-- where lists match, each item has a value
pub match_at : {X : Type 0} (P : X → ℕ → Type 0) (xs : List X) (values : List ℕ) (i : ℕ) (d : X) → i < length xs
    → Match P xs values → (value : ℕ) × P (get_or xs i d) value
match_at P [] values i d below all = absurd (omega (arith, below))
match_at P (x ∷ xs) [] i d below all = absurd all
match_at P (x ∷ xs) (value ∷ values) zero d below all = (value, all.0)
match_at P (x ∷ xs) (value ∷ values) (suc i) d below all =
    match_at P xs values i d (omega (arith, below)) all.1

-- a request without an entry has no reply
pub no_reply : (slices : List PartsView) (named_request : Option NamedRequest) (value : ℕ) →
    LacksReply slices named_request
    → HasReply slices named_request value → ⊥
no_reply slices None value lacks has = has
no_reply slices (Some named_request) value lacks has =
    All-contains (λ entry. IsOf named_request named_request.slice entry → ⊥) (log_at slices named_request.slice.0)
    has.entry lacks has.there
    has.same

-- a word whose slice isn't quiet has no value
pub no_word : (config : Config) (slices : List PartsView) (word : WordAddr) (value : ℕ)
    → IsShownWord slices (word.0 / 8 % config.slices) word None → HasWord config slices word value → ⊥
no_word config slices word value none has = none.holds (has none.state none.found).0
