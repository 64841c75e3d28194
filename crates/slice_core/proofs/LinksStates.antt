-- What the rows of the cache's table do to a copy's state where a message comes, as far as registers and requests go:
-- tests over all states that hold by computing.
use Rattle.std.proofs.Common.{◌≡◌, ℕ, ◌+◌, Bool, true, false, not, ◌&&◌, ◌||◌, Option, Some, None, List}
use Rattle.std.proofs.Common.{[], ◌∷◌, refl, is_some}
use Rattle.cache_table.proofs.Each.{each_state, each_state-at}
use Rattle.cache_table.specs.CopyState.{is_leaving, is_waiting}
use Rattle.cache_table.specs.Row.{row_of, row_by_count}
use Rattle.cache_table.specs.declared.row.CacheEvent.TheVariants as cache_events
use Rattle.cache_table.specs.declared.row.CacheSends.TheVariants as cache_sends
use Rattle.cache_table.specs.declared.row.CacheSends.{CacheSends}
use Rattle.cache_table.specs.declared.row.Row.TheVariants as rows
use Rattle.cache_table.specs.declared.row.Row.{Row}
use Rattle.cache_table.specs.declared.state.CopyState.TheVariants as copy_states
use Rattle.cache_table.specs.declared.state.CopyState.{CopyState}
use Rattle.mshr_file.specs.Miss.{is_waited}
use Rattle.slice_core.proofs.LinksAsking.{agree, agree-at, each_request-at, goes_to}
use Rattle.slice_core.proofs.LinksAsking.{goes_to-at, goes_to-counted, implies, implies-at, leaves, left, not-false}
use Rattle.slice_core.proofs.LinksAsking.{right}
use Rattle.slice_core.specs.Sound.{has_sent}
use Rattle.slice_core_cache.specs.Access.{is_idle}
use Rattle.slice_core_cache.specs.Copy.{is_gone}
use Rattle.slice_core_cache.specs.Kept.{stands_in_array}
use Rattle.slice_core_cache.specs.Perform.{asks_to_write, left_in, settled_state}
use Rattle.slice_core_spec.specs.Plan.{event_of_forwarded, is_put_ack}
use Rattle.slice_queues.specs.declared.message.ForwardedMessage.TheVariants as forwarded_messages
use Rattle.slice_queues.specs.declared.message.ForwardedMessage.{ForwardedMessage}
use Rattle.slice_queues.specs.declared.message.RequestMessage.TheVariants as request_messages
use Rattle.slice_queues.specs.declared.message.RequestMessage.{RequestMessage}
use Rattle.target_list.specs.Target.{behind_loads}
use Rattle.target_list.specs.declared.target.Target.{Target}

-- ---- forwarded messages

-- the copy stays where it is or is gone, and waits as before; what it has sent is what it had, but a Put whose
-- acknowledgement came
unfoldable goes_on : Bool → CopyState → Option RequestMessage → CopyState → CacheSends → Bool
goes_on acked state request next sent =
    (((is_gone next || agree (stands_in_array next) (stands_in_array state))
    && (is_gone next || agree (is_leaving next) (is_leaving state)))
    && agree (is_waiting next) (is_waiting state))
    && (acked && is_some request || implies (has_sent state request) (has_sent next request))

goes_on-row : (message : ForwardedMessage) (state : CopyState) (request : Option RequestMessage) →
    goes_to (goes_on (is_put_ack message) state request) (row_of state (event_of_forwarded message)) ≡ true
unfolding each_state goes_on goes_to implies agree
goes_on-row (forwarded_messages.FwdGetS core) state =
    each_request-at (λ r. goes_to (goes_on false state r) (row_of state cache_events.FwdGetS))
    (each_state-at (λ s. goes_to (goes_on false s None) (row_of s cache_events.FwdGetS)) refl state)
    (each_state-at (λ s. goes_to (goes_on false s (Some request_messages.GetS)) (row_of s cache_events.FwdGetS)) refl
    state)
    (each_state-at (λ s. goes_to (goes_on false s (Some request_messages.GetM)) (row_of s cache_events.FwdGetS)) refl
    state)
    (each_state-at (λ s. goes_to (goes_on false s (Some request_messages.PutS)) (row_of s cache_events.FwdGetS)) refl
    state)
    (λ b. each_state-at
    (λ s. goes_to (goes_on false s (Some (request_messages.PutM b))) (row_of s cache_events.FwdGetS)) refl state)
goes_on-row (forwarded_messages.FwdGetM core) state =
    each_request-at (λ r. goes_to (goes_on false state r) (row_of state cache_events.FwdGetM))
    (each_state-at (λ s. goes_to (goes_on false s None) (row_of s cache_events.FwdGetM)) refl state)
    (each_state-at (λ s. goes_to (goes_on false s (Some request_messages.GetS)) (row_of s cache_events.FwdGetM)) refl
    state)
    (each_state-at (λ s. goes_to (goes_on false s (Some request_messages.GetM)) (row_of s cache_events.FwdGetM)) refl
    state)
    (each_state-at (λ s. goes_to (goes_on false s (Some request_messages.PutS)) (row_of s cache_events.FwdGetM)) refl
    state)
    (λ b. each_state-at
    (λ s. goes_to (goes_on false s (Some (request_messages.PutM b))) (row_of s cache_events.FwdGetM)) refl state)
goes_on-row (forwarded_messages.Inv core) state =
    each_request-at (λ r. goes_to (goes_on false state r) (row_of state cache_events.Inv))
    (each_state-at (λ s. goes_to (goes_on false s None) (row_of s cache_events.Inv)) refl state)
    (each_state-at (λ s. goes_to (goes_on false s (Some request_messages.GetS)) (row_of s cache_events.Inv)) refl state)
    (each_state-at (λ s. goes_to (goes_on false s (Some request_messages.GetM)) (row_of s cache_events.Inv)) refl state)
    (each_state-at (λ s. goes_to (goes_on false s (Some request_messages.PutS)) (row_of s cache_events.Inv)) refl state)
    (λ b. each_state-at (λ s. goes_to (goes_on false s (Some (request_messages.PutM b))) (row_of s cache_events.Inv))
    refl state)
goes_on-row forwarded_messages.PutAck state =
    each_request-at (λ r. goes_to (goes_on true state r) (row_of state cache_events.PutAck))
    (each_state-at (λ s. goes_to (goes_on true s None) (row_of s cache_events.PutAck)) refl state)
    (each_state-at (λ s. goes_to (goes_on true s (Some request_messages.GetS)) (row_of s cache_events.PutAck)) refl
    state)
    (each_state-at (λ s. goes_to (goes_on true s (Some request_messages.GetM)) (row_of s cache_events.PutAck)) refl
    state)
    (each_state-at (λ s. goes_to (goes_on true s (Some request_messages.PutS)) (row_of s cache_events.PutAck)) refl
    state)
    (λ b. each_state-at (λ s. goes_to (goes_on true s (Some (request_messages.PutM b))) (row_of s cache_events.PutAck))
    refl state)

-- A copy that answers a forwarded message stays where it is unless nothing is left of it. It waits as before, and has
-- sent what it had.
pub record GoesOn (state next : CopyState) (request : Option RequestMessage) : Type 0 where
  pub stands : is_gone next ≡ false → stands_in_array next ≡ stands_in_array state
  pub leaves : is_gone next ≡ false → is_leaving next ≡ is_leaving state
  pub waits : is_waiting next ≡ is_waiting state
  pub sent : has_sent state request ≡ true → has_sent next request ≡ true

or-else : (a b : Bool) → (a || b) ≡ true → a ≡ false → b ≡ true
or-else true b e none = cc
or-else false b e none = e

pub goes_on_by : (message : ForwardedMessage) (state next : CopyState) (sent : CacheSends)
    (request : Option RequestMessage) →
    row_of state (event_of_forwarded message) ≡ rows.Go next sent → (is_put_ack message && is_some request) ≡ false →
    GoesOn state next request
unfolding goes_on
goes_on_by message state next sent request is early =
    let acked = is_put_ack message && is_some request in
    let kept = implies (has_sent state request) (has_sent next request) in
    let stands = is_gone next || agree (stands_in_array next) (stands_in_array state) in
    let leaves = is_gone next || agree (is_leaving next) (is_leaving state) in
    let waits = agree (is_waiting next) (is_waiting state) in
    let all : (((stands && leaves) && waits) && (acked || kept)) ≡ true =
    goes_to-at (goes_on (is_put_ack message) state request) (row_of state (event_of_forwarded message)) next sent
    (goes_on-row message state request) is in
    let places = left (stands && leaves) waits (left ((stands && leaves) && waits) (acked || kept) all) in record {
      stands = λ here. agree-at _ _ (or-else (is_gone next) _ (left stands leaves places) here);
      leaves = λ here. agree-at _ _ (or-else (is_gone next) _ (right stands leaves places) here);
      waits = agree-at _ _ (right (stands && leaves) waits (left ((stands && leaves) && waits) (acked || kept) all));
      sent = implies-at _ _ (or-else acked kept (right ((stands && leaves) && waits) (acked || kept) all) early);
    }

-- ---- data and acknowledgements

-- the copy waited, and comes to a state of the array; and what it has sent is what it had
unfoldable comes : CopyState → Option RequestMessage → CopyState → CacheSends → Bool
comes state request next sent =
    (is_waiting state && stands_in_array next) && implies (has_sent state request) (has_sent next request)

-- A copy that data or an acknowledgement come to waited for them, and is in the array. It has sent what it had.
pub record ComesTo (state next : CopyState) (request : Option RequestMessage) : Type 0 where
  pub waited : is_waiting state ≡ true
  pub stands : stands_in_array next ≡ true
  pub sent : has_sent state request ≡ true → has_sent next request ≡ true

comes_to : (state next : CopyState) (sent : CacheSends) (request : Option RequestMessage) (row : Row) →
    goes_to (comes state request) row ≡ true → row ≡ rows.Go next sent → ComesTo state next request
unfolding comes
comes_to state next sent request row tested is =
    let all = goes_to-at (comes state request) row next sent tested is in
    let kept = implies (has_sent state request) (has_sent next request) in
    let first = left (is_waiting state && stands_in_array next) kept all in record {
      waited = left _ (stands_in_array next) first;
      stands = right (is_waiting state) _ first;
      sent = implies-at _ _ (right (is_waiting state && stands_in_array next) kept all);
    }

data-row : (n k : ℕ) (state : CopyState) → goes_to (comes state None) (row_of state (cache_events.Data n k)) ≡ true
unfolding goes_to comes implies
data-row n k copy_states.IM_AD = goes_to-counted (comes copy_states.IM_AD None) k n copy_states.IM_A refl refl
data-row n k copy_states.SM_AD = goes_to-counted (comes copy_states.SM_AD None) k n copy_states.SM_A refl refl
data-row n k _ = refl

exclusive-row : (loads : Bool) (state : CopyState) →
    goes_to (comes state None) (row_of state (cache_events.DataE loads))
    ≡ true
unfolding each_state goes_to comes implies
exclusive-row true = each_state-at (λ s. goes_to (comes s None) (row_of s (cache_events.DataE true))) refl
exclusive-row false = each_state-at (λ s. goes_to (comes s None) (row_of s (cache_events.DataE false))) refl

pub comes_by_data : (n k : ℕ) (state next : CopyState) (sent : CacheSends) →
    row_of state (cache_events.Data n k) ≡ rows.Go next sent → ComesTo state next None
comes_by_data n k state next sent =
    comes_to state next sent None (row_of state (cache_events.Data n k)) (data-row n k state)

pub comes_by_exclusive : (loads : Bool) (state next : CopyState) (sent : CacheSends) →
    row_of state (cache_events.DataE loads) ≡ rows.Go next sent → ComesTo state next None
comes_by_exclusive loads state next sent =
    comes_to state next sent None (row_of state (cache_events.DataE loads)) (exclusive-row loads state)

ack-counts : (state : CopyState) (waits : CopyState) (come n : ℕ) →
    ((request : Option RequestMessage) → comes state request copy_states.M cache_sends.Nothing ≡ true) →
    ((request : Option RequestMessage) → comes state request waits cache_sends.Nothing ≡ true) →
    (request : Option RequestMessage) → goes_to (comes state request) (row_by_count come n waits) ≡ true
ack-counts state waits come n last more request =
    goes_to-counted (comes state request) come n waits (last request) (more request)

ack-row : (n k : ℕ) (state : CopyState) (request : Option RequestMessage) →
    goes_to (comes state request) (row_of state (cache_events.InvAck n k)) ≡ true
unfolding goes_to comes implies
ack-row n k copy_states.IM_A =
    ack-counts copy_states.IM_A copy_states.IM_A (k + 1) n (each_request-at _ refl refl refl refl (λ b. refl))
    (each_request-at _ refl refl refl refl (λ b. refl))
ack-row n k copy_states.SM_A =
    ack-counts copy_states.SM_A copy_states.SM_A (k + 1) n (each_request-at _ refl refl refl refl (λ b. refl))
    (each_request-at _ refl refl refl refl (λ b. refl))
ack-row n k copy_states.IM_AD = each_request-at _ refl refl refl refl (λ b. refl)
ack-row n k copy_states.SM_AD = each_request-at _ refl refl refl refl (λ b. refl)
ack-row n k _ = λ request. refl

pub comes_by_ack : (n k : ℕ) (state next : CopyState) (sent : CacheSends) (request : Option RequestMessage) →
    row_of state (cache_events.InvAck n k) ≡ rows.Go next sent → ComesTo state next request
comes_by_ack n k state next sent request =
    comes_to state next sent request (row_of state (cache_events.InvAck n k)) (ack-row n k state request)

-- ---- settling

-- a shared copy waits where a write is left after its loads
shared-waits : (left : List Target) → is_waiting (settled_state copy_states.S left) ≡ is_waited left
shared-waits [] = refl
shared-waits (target ∷ targets) = refl

-- A copy that has come to its state waits exactly where some of its targets are left.
pub settled-waits : (state : CopyState) (targets : List Target) → stands_in_array state ≡ true →
    is_waited targets ≡ true →
    is_waiting (settled_state state (left_in state targets)) ≡ is_waited (left_in state targets)
settled-waits copy_states.S targets stands some = shared-waits (behind_loads targets)
settled-waits _ targets stands some = cc

-- what waits for the directory once a copy has settled: the right to write, if it is asked for
unfoldable pub asked_then : Bool → Option RequestMessage → Option RequestMessage
asked_then true request = Some request_messages.GetM
asked_then false request = request

shared-sent : (left : List Target) (request : Option RequestMessage) → has_sent copy_states.S request ≡ true →
    has_sent (settled_state copy_states.S left) (asked_then (is_waited left) request) ≡ true
unfolding asked_then
shared-sent [] request sent = sent
shared-sent (target ∷ targets) request sent = refl

-- It has sent what it had, or asks for the right to write.
pub settled-sent : (state : CopyState) (targets : List Target) (request : Option RequestMessage) →
    has_sent state request ≡ true →
    has_sent (settled_state state (left_in state targets)) (asked_then (asks_to_write state targets) request) ≡ true
unfolding asked_then
settled-sent copy_states.S targets request sent = shared-sent (behind_loads targets) request sent
settled-sent _ targets request sent = sent

-- It is in the array as before.
pub settled-stands : (state : CopyState) (targets : List Target) → stands_in_array state ≡ true →
    stands_in_array (settled_state state (left_in state targets)) ≡ true
settled-stands copy_states.S targets stands = shared (behind_loads targets)
  where
    shared : (left : List Target) → stands_in_array (settled_state copy_states.S left) ≡ true
    shared [] = refl
    shared (target ∷ targets) = refl
settled-stands copy_states.I targets stands = stands
settled-stands copy_states.MI_A targets stands = stands
settled-stands copy_states.SI_A targets stands = stands
settled-stands copy_states.II_A targets stands = stands
settled-stands _ targets stands = refl

-- a copy of which nothing is left is in I
pub gone-is : (state : CopyState) → is_gone state ≡ true → state ≡ copy_states.I
gone-is copy_states.I gone = refl
gone-is _ gone = cc

-- no copy waits and leaves
pub waits-or_leaves : (state : CopyState) → is_leaving state ≡ true → is_waiting state ≡ false
unfolding each_state implies
waits-or_leaves state leaves =
    not-false (is_waiting state)
    (implies-at (is_leaving state) (not (is_waiting state))
    (each_state-at (λ s. implies (is_leaving s) (not (is_waiting s))) refl state) leaves)

clash : (b : Bool) → not b ≡ true → b ≡ true → ⊥
clash true e f = cc
clash false e f = cc

-- a copy that is idle has sent nothing that waits
unfoldable idles : Option RequestMessage → CopyState → Bool
idles request state = implies (is_idle state) (not (has_sent state request))

pub idle-none : (state : CopyState) (request : Option RequestMessage) → is_idle state ≡ true →
    has_sent state request ≡ true → request ≡ None
unfolding each_state idles implies
idle-none state None idle sent = refl
idle-none state (Some request_messages.GetS) idle sent =
    let tested = implies-at _ _ (each_state-at (idles (Some request_messages.GetS)) refl state) idle in
    absurd (clash (has_sent state (Some request_messages.GetS)) tested sent)
idle-none state (Some request_messages.GetM) idle sent =
    let tested = implies-at _ _ (each_state-at (idles (Some request_messages.GetM)) refl state) idle in
    absurd (clash (has_sent state (Some request_messages.GetM)) tested sent)
idle-none state (Some request_messages.PutS) idle sent =
    let tested = implies-at _ _ (each_state-at (idles (Some request_messages.PutS)) refl state) idle in
    absurd (clash (has_sent state (Some request_messages.PutS)) tested sent)
idle-none state (Some (request_messages.PutM block)) idle sent =
    let tested = implies-at _ _ (each_state-at (idles (Some (request_messages.PutM block))) refl state) idle in
    absurd (clash (has_sent state (Some (request_messages.PutM block))) tested sent)
