-- A round's outcome is read from the logs of its slices, and from their words once they are quiet.
use Rattle.std.specs.Prelude.{◌≡◌, ℕ, ◌/◌, ◌%◌, List, [], ◌∷◌, ◌++◌, length, map, All}
use Rattle.std.specs.Prelude.{Contains, Option, Some, None}
use Rattle.std.specs.List.{range_with_len}
use Rattle.address_map.specs.declared.address.WordAddr.{WordAddr}
use Rattle.address_map.specs.declared.config.Config.{Config}
use Rattle.litmus_test.specs.NamedRequest.{IsOf, named_request_of}
use Rattle.litmus_test.specs.declared.outcomes.named_request.NamedRequest.{NamedRequest}
use Rattle.litmus_script.specs.Machine.{IsQuietWord, log_at}
use Rattle.litmus_test.specs.declared.test.LitmusTest.{LitmusTest}
use Rattle.slice_core_spec.specs.Calls.{PartsView}
use Rattle.slice_log.specs.declared.entry.Entry.{Entry}

-- the request is an entry in the log of its slice, and this is its reply
pub record IsReplyOf (slices : List PartsView) (named_request : NamedRequest) (value : ℕ) : Type 0 where
  pub entry : Entry
  pub there : Contains (log_at slices named_request.slice.0) entry
  pub same : IsOf named_request named_request.slice entry
  pub reply : value ≡ entry.reply

-- there is a request, and this is its reply
abbrev pub HasReply : List PartsView → Option NamedRequest → ℕ → Type 0
HasReply slices None reply = ⊥
HasReply slices (Some named_request) reply = IsReplyOf slices named_request reply

-- the log of its slice has no entry of the request, or there is no request
abbrev pub LacksReply : List PartsView → Option NamedRequest → Type 0
LacksReply slices None = Unit {0}
LacksReply slices (Some named_request) =
    All (λ entry. ¬ IsOf named_request named_request.slice entry) (log_at slices named_request.slice.0)

-- the word's slice is quiet, and this is the word's value after the whole log
abbrev pub HasWord : Config → List PartsView → WordAddr → ℕ → Type 0
HasWord config slices word shown = IsQuietWord slices (word.0 / 8 % config.slices) word shown

-- each has its value, in order
abbrev pub Match : {X : Type 0} → (X → ℕ → Type 0) → List X → List ℕ → Type 0
Match P [] [] = Unit {0}
Match P [] (value ∷ values) = ⊥
Match P (x ∷ xs) [] = ⊥
Match P (x ∷ xs) (value ∷ values) = P x value × Match P xs values

-- these values were added, one for each
pub record AddsMatch {X : Type 0} (P : X → ℕ → Type 0) (xs : List X) (old new : List ℕ) : Type 0 where
  pub values : List ℕ
  pub added : new ≡ old ++ values
  pub each : Match P xs values

-- the requests of all names, in order
abbrev pub all_named_requests : LitmusTest → List (Option NamedRequest)
all_named_requests test = map (named_request_of test) (range_with_len 0 (length test.names.items))

-- the replies of all named steps, and then the values of all counters
pub record IsOutcome (test : LitmusTest) (slices : List PartsView) (values : List ℕ) : Type 0 where
  pub replies : List ℕ
  pub counters : List ℕ
  pub both : values ≡ replies ++ counters
  pub named : Match (HasReply slices) (all_named_requests test) replies
  pub counted : Match (HasWord test.config slices) test.config.counters counters
