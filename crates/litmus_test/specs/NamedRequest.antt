-- The request that a named step makes, by its entry in the slice's log.
use Rattle.std.specs.Prelude.{◌≡◌, ℕ, ◌==◌, if◌then◌else◌, List, [], ◌∷◌, ◌++◌, length, take, slice_get, Option, Some}
use Rattle.std.specs.Prelude.{None, option_and_then}
use Rattle.address_map.specs.Place.{line_of, slice_of}
use Rattle.address_map.specs.declared.address.SliceId.{SliceId}
use Rattle.address_map.specs.declared.address.WordAddr.{WordAddr}
use Rattle.address_map.specs.declared.config.Config.{Config}
use Rattle.address_map.specs.declared.request.Op.{Op}
use Rattle.litmus_test.specs.declared.test.Action.{Action}
use Rattle.litmus_test.specs.declared.test.Action.TheVariants as actions
use Rattle.litmus_test.specs.declared.test.LitmusTest.{LitmusTest}
use Rattle.litmus_test.specs.declared.test.Thread.{Thread}
use Rattle.slice_log.specs.declared.entry.Entry.{Entry}
use Rattle.litmus_test.specs.declared.outcomes.named_request.NamedRequest.{NamedRequest}

-- the step is an access to a word of the slice of this number
abbrev pub IsIn : Config → ℕ → Action → Type 0
IsIn c slice (actions.Access word op) = (slice_of c (line_of word)).0 ≡ slice
IsIn c slice actions.Settle = ⊥
IsIn c slice (actions.Evict line) = ⊥

-- the accesses that these steps make to words of the slice of this number, in order
abbrev pub requests_in : Config → ℕ → List Action → List (WordAddr × Op)
requests_in c slice [] = []
requests_in c slice (actions.Access word op ∷ steps) =
    (if (slice_of c (line_of word)).0 == slice then (word, op) ∷ [] else []) ++ requests_in c slice steps
requests_in c slice (step ∷ steps) = requests_in c slice steps

-- The request that a step of a thread makes, if it is an access: the thread's core makes it, to the slice that has the
-- word, after those that the steps before it make to that slice.
abbrev pub request_of : Config → Thread → ℕ → Action → Option NamedRequest
request_of c thread step (actions.Access word op) =
    let slice = slice_of c (line_of word) in
    Some (record {
      core = thread.core;
      slice = slice;
      seq = length (requests_in c slice.0 (take step thread.steps.items));
    })
request_of c thread step actions.Settle = None
request_of c thread step (actions.Evict line) = None

-- the request of the step at this place of a thread
abbrev pub named_request_at : Config → Thread → ℕ → Option NamedRequest
named_request_at c thread step = option_and_then (request_of c thread step) (slice_get thread.steps.items step)

-- the request whose reply has the name of this number
abbrev pub named_request_of : LitmusTest → ℕ → Option NamedRequest
named_request_of test name =
    option_and_then
    (λ named. option_and_then (λ thread. named_request_at test.config thread named.step)
    (slice_get test.threads.items named.thread))
    (slice_get test.names.items name)

-- the entry, in the log of this slice, is of the request
pub record IsOf (named_request : NamedRequest) (own : SliceId) (entry : Entry) : Type 0 where
  pub core : entry.core ≡ named_request.core
  pub slice : own ≡ named_request.slice
  pub seq : entry.seq ≡ named_request.seq
