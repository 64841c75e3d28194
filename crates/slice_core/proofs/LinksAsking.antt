-- What holds of all states, where a core asks: of its request, of an access and of an eviction.
use Rattle.std.proofs.Common.{◌≡◌, ℕ, ◌==◌, nat_lt, Bool, true, false, not, if◌then◌else◌, ◌&&◌, Option, Some, None}
use Rattle.std.proofs.Common.{refl, subst}
use Rattle.std.proofs.lemmas.Bool.{and_parts}
use Rattle.address_map.specs.declared.block.Block.{Block}
use Rattle.address_map.specs.declared.request.Op.{Op}
use Rattle.address_map.specs.declared.request.Op.TheVariants as ops
use Rattle.cache_table.proofs.Each.{each_state, each_state-at}
use Rattle.cache_table.specs.CopyState.{is_leaving, is_waiting}
use Rattle.cache_table.specs.Row.{row_of, row_by_count}
use Rattle.cache_table.specs.declared.row.CacheEvent.TheVariants as cache_events
use Rattle.cache_table.specs.declared.row.CacheSends.{CacheSends}
use Rattle.cache_table.specs.declared.row.CacheSends.TheVariants as cache_sends
use Rattle.cache_table.specs.declared.row.Row.{Row}
use Rattle.cache_table.specs.declared.row.Row.TheVariants as rows
use Rattle.cache_table.specs.declared.state.CopyState.{CopyState}
use Rattle.cache_table.specs.declared.state.CopyState.TheVariants as copy_states
use Rattle.slice_core_theory.proofs.Accesses.{sends_for}
use Rattle.slice_core_spec.specs.Steps.{request_of}
use Rattle.slice_core_cache.specs.Access.{event_of}
use Rattle.slice_core_cache.specs.Copy.{may_leave}
use Rattle.slice_core_cache.specs.Kept.{stands_in_array}
use Rattle.slice_core_cache.specs.Steps.{next_by, put_by}
use Rattle.slice_core_cache.specs.declared.access.Ask.{Ask}
use Rattle.slice_core_cache.specs.declared.access.Ask.TheVariants as asks
use Rattle.slice_core.specs.Sound.{has_sent}
use Rattle.slice_queues.specs.declared.message.RequestMessage.{RequestMessage}
use Rattle.slice_queues.specs.declared.message.RequestMessage.TheVariants as request_messages

-- ---- tests over all states

pub left : (a b : Bool) → (a && b) ≡ true → a ≡ true
left a b e = (and_parts a b e).0

pub right : (a b : Bool) → (a && b) ≡ true → b ≡ true
right a b e = (and_parts a b e).1

-- the second where the first holds
unfoldable pub implies : Bool → Bool → Bool
implies true b = b
implies false b = true

pub implies-at : (a b : Bool) → implies a b ≡ true → a ≡ true → b ≡ true
unfolding implies
implies-at true b e h = e
implies-at false b e h = cc

-- where one holds the other does
unfoldable pub agree : Bool → Bool → Bool
agree true b = b
agree false b = not b

pub agree-at : (a b : Bool) → agree a b ≡ true → a ≡ b
unfolding agree
agree-at true true e = refl
agree-at true false e = cc
agree-at false true e = cc
agree-at false false e = refl

-- a row that goes on does so to a state that passes, and sends what passes
unfoldable pub goes_to : (CopyState → CacheSends → Bool) → Row → Bool
goes_to p (rows.Go next sent) = p next sent
goes_to p rows.Blocked = true
goes_to p rows.NoEntry = true

pub goes_to-at : (p : CopyState → CacheSends → Bool) (row : Row) (next : CopyState) (sent : CacheSends) →
    goes_to p row ≡ true →
    row ≡ rows.Go next sent → p next sent ≡ true
unfolding goes_to
goes_to-at p row next sent passes is = subst (λ r. goes_to p r ≡ true) is passes

pub goes_to-counted : (p : CopyState → CacheSends → Bool) (come n : ℕ) (waits : CopyState) →
    p copy_states.M cache_sends.Nothing ≡ true →
    p waits cache_sends.Nothing ≡ true → goes_to p (row_by_count come n waits) ≡ true
unfolding goes_to
goes_to-counted p come n waits last more = by (come == n) (nat_lt come n)
  where
    by : (a b : Bool) →
        goes_to p (if a then rows.Go copy_states.M cache_sends.Nothing else if b then
        rows.Go waits cache_sends.Nothing else
        rows.NoEntry) ≡ true
    by true b = last
    by false true = more
    by false false = refl

-- ---- requests

-- what holds of each kind of request holds of every one
pub each_request-at : (p : Option RequestMessage → Bool) → p None ≡ true → p (Some request_messages.GetS) ≡ true →
    p (Some request_messages.GetM) ≡ true → p (Some request_messages.PutS) ≡ true →
    ((block : Block) → p (Some (request_messages.PutM block)) ≡ true) →
    (request : Option RequestMessage) → p request ≡ true
each_request-at p n s m t u None = n
each_request-at p n s m t u (Some request_messages.GetS) = s
each_request-at p n s m t u (Some request_messages.GetM) = m
each_request-at p n s m t u (Some request_messages.PutS) = t
each_request-at p n s m t u (Some (request_messages.PutM block)) = u block

-- nothing is asked for a copy of which nothing is left over
pub sent-none : (state : CopyState) → has_sent state None ≡ true
unfolding each_state
sent-none state = each_state-at (λ s. has_sent s None) refl state

-- ---- accesses

-- the copy stays in the array, waits no more than before, and has sent what it had
unfoldable hits : CopyState → Option RequestMessage → CopyState → CacheSends → Bool
hits state request next cache_sends.Nothing =
    (stands_in_array next && agree (is_waiting next) (is_waiting state))
    && implies (has_sent state request) (has_sent next request)
hits state request next _ = true

hit-load : (state : CopyState) (request : Option RequestMessage) →
    goes_to (hits state request) (row_of state cache_events.Load) ≡ true
unfolding each_state hits goes_to implies agree
hit-load state =
    each_request-at (λ r. goes_to (hits state r) (row_of state cache_events.Load))
    (each_state-at (λ s. goes_to (hits s None) (row_of s cache_events.Load)) refl state)
    (each_state-at (λ s. goes_to (hits s (Some request_messages.GetS)) (row_of s cache_events.Load)) refl state)
    (each_state-at (λ s. goes_to (hits s (Some request_messages.GetM)) (row_of s cache_events.Load)) refl state)
    (each_state-at (λ s. goes_to (hits s (Some request_messages.PutS)) (row_of s cache_events.Load)) refl state)
    (λ b. each_state-at (λ s. goes_to (hits s (Some (request_messages.PutM b))) (row_of s cache_events.Load)) refl
    state)

hit-write : (state : CopyState) (request : Option RequestMessage) →
    goes_to (hits state request) (row_of state cache_events.Write) ≡ true
unfolding each_state hits goes_to implies agree
hit-write state =
    each_request-at (λ r. goes_to (hits state r) (row_of state cache_events.Write))
    (each_state-at (λ s. goes_to (hits s None) (row_of s cache_events.Write)) refl state)
    (each_state-at (λ s. goes_to (hits s (Some request_messages.GetS)) (row_of s cache_events.Write)) refl state)
    (each_state-at (λ s. goes_to (hits s (Some request_messages.GetM)) (row_of s cache_events.Write)) refl state)
    (each_state-at (λ s. goes_to (hits s (Some request_messages.PutS)) (row_of s cache_events.Write)) refl state)
    (λ b. each_state-at (λ s. goes_to (hits s (Some (request_messages.PutM b))) (row_of s cache_events.Write)) refl
    state)

hit-row : (op : Op) (state : CopyState) (request : Option RequestMessage) →
    goes_to (hits state request) (row_of state (event_of op)) ≡ true
hit-row ops.Load = hit-load
hit-row (ops.Store new) = hit-write
hit-row (ops.Add increment) = hit-write
hit-row (ops.Cas expect new) = hit-write

-- A hit leaves the copy where it is, waiting for nothing that it didn't wait for.
pub record HitsOn (state next : CopyState) (request : Option RequestMessage) : Type 0 where
  pub stands : stands_in_array next ≡ true
  pub waits : is_waiting next ≡ is_waiting state
  pub sent : has_sent state request ≡ true → has_sent next request ≡ true

pub hits_on : (op : Op) (state next : CopyState) (request : Option RequestMessage) →
    row_of state (event_of op) ≡ rows.Go next cache_sends.Nothing → HitsOn state next request
unfolding hits
hits_on op state next request is =
    let all = goes_to-at (hits state request) (row_of state (event_of op)) next cache_sends.Nothing
    (hit-row op state request) is in
    let first = left (stands_in_array next && agree (is_waiting next) (is_waiting state))
    (implies (has_sent state request) (has_sent next request)) all in record {
      stands = left _ (agree (is_waiting next) (is_waiting state)) first;
      waits = agree-at _ _ (right (stands_in_array next) _ first);
      sent = implies-at _ _ (right (stands_in_array next && agree (is_waiting next) (is_waiting state)) _ all);
    }

-- the copy waits, and has sent what it asks for
unfoldable opens : CopyState → CacheSends → Bool
opens next cache_sends.GetS = (stands_in_array next && is_waiting next) && has_sent next (Some request_messages.GetS)
opens next cache_sends.GetM = (stands_in_array next && is_waiting next) && has_sent next (Some request_messages.GetM)
opens next _ = true

opens-load : (state : CopyState) → goes_to opens (row_of state cache_events.Load) ≡ true
unfolding each_state opens goes_to
opens-load = each_state-at (λ s. goes_to opens (row_of s cache_events.Load)) refl

opens-write : (state : CopyState) → goes_to opens (row_of state cache_events.Write) ≡ true
unfolding each_state opens goes_to
opens-write = each_state-at (λ s. goes_to opens (row_of s cache_events.Write)) refl

opens-row : (op : Op) (state : CopyState) → goes_to opens (row_of state (event_of op)) ≡ true
opens-row ops.Load = opens-load
opens-row (ops.Store new) = opens-write
opens-row (ops.Add increment) = opens-write
opens-row (ops.Cas expect new) = opens-write

-- A miss leaves a copy in the array that waits, and for which this was asked.
pub record OpensTo (next : CopyState) (ask : Ask) : Type 0 where
  pub stands : stands_in_array next ≡ true
  pub waits : is_waiting next ≡ true
  pub sent : has_sent next (Some (request_of ask)) ≡ true

pub opens_to : (op : Op) (state next : CopyState) (ask : Ask) →
    row_of state (event_of op) ≡ rows.Go next (sends_for ask) → OpensTo next ask
unfolding opens
opens_to op state next asks.GetS is =
    let all = goes_to-at opens (row_of state (event_of op)) next cache_sends.GetS (opens-row op state) is in
    let first = left (stands_in_array next && is_waiting next) (has_sent next (Some request_messages.GetS)) all in
    record {
      stands = left _ (is_waiting next) first;
      waits = right (stands_in_array next) _ first;
      sent = right (stands_in_array next && is_waiting next) _ all;
    }
opens_to op state next asks.GetM is =
    let all = goes_to-at opens (row_of state (event_of op)) next cache_sends.GetM (opens-row op state) is in
    let first = left (stands_in_array next && is_waiting next) (has_sent next (Some request_messages.GetM)) all in
    record {
      stands = left _ (is_waiting next) first;
      waits = right (stands_in_array next) _ first;
      sent = right (stands_in_array next && is_waiting next) _ all;
    }

-- ---- evictions

unfoldable pub leaves : Block → CopyState → Bool
leaves block state =
    implies (may_leave state)
    ((is_leaving (next_by state (row_of state cache_events.Eviction))
    && not (is_waiting (next_by state (row_of state cache_events.Eviction))))
    && (has_sent (next_by state (row_of state cache_events.Eviction))
    (Some (put_by block (row_of state cache_events.Eviction)))
    && not (is_waiting state)))

-- A copy that leaves waits for nothing, before and then, and its Put was sent.
pub record LeavesBy (state next : CopyState) (put : RequestMessage) : Type 0 where
  pub leaving : is_leaving next ≡ true
  pub idle : is_waiting state ≡ false
  pub waits : is_waiting next ≡ false
  pub sent : has_sent next (Some put) ≡ true

pub not-false : (b : Bool) → not b ≡ true → b ≡ false
not-false true e = cc
not-false false e = refl

pub leaves_by : (block : Block) (state : CopyState) → may_leave state ≡ true →
    LeavesBy state (next_by state (row_of state cache_events.Eviction))
    (put_by block (row_of state cache_events.Eviction))
unfolding each_state leaves implies
leaves_by block state may =
    let next = next_by state (row_of state cache_events.Eviction) in
    let put = put_by block (row_of state cache_events.Eviction) in
    let tested : leaves block state ≡ true = each_state-at (leaves block) refl state in
    let all = implies-at (may_leave state) _ tested may in
    let first = left (is_leaving next && not (is_waiting next)) (has_sent next (Some put) && not (is_waiting state))
    all in
    let second = right (is_leaving next && not (is_waiting next)) _ all in record {
      leaving = left _ (not (is_waiting next)) first;
      idle = not-false _ (right (has_sent next (Some put)) _ second);
      waits = not-false _ (right (is_leaving next) _ first);
      sent = left _ (not (is_waiting state)) second;
    }
