-- What the rows of a private cache's table send for messages, and to which states they lead.
use Rattle.std.proofs.Common.{◌≡◌, ℕ, ◌+◌, ◌==◌, ◌&&◌, Bool, true, false, not, nat_lt, if◌then◌else◌, refl, sym, ap}
use Rattle.std.proofs.Common.{◌∙◌}
use Rattle.std.proofs.lemmas.Bool.{eqb-true}
use Rattle.cache_table.specs.CopyState.{is_waiting}
use Rattle.cache_table.specs.Law.{sends_data}
use Rattle.cache_table.specs.Row.{row_by_count, row_of}
use Rattle.cache_table.specs.declared.row.CacheEvent.TheVariants as cache_events
use Rattle.cache_table.specs.declared.row.CacheSends.{CacheSends}
use Rattle.cache_table.specs.declared.row.CacheSends.TheVariants as cache_sends
use Rattle.cache_table.specs.declared.row.Row.{Row}
use Rattle.cache_table.specs.declared.row.Row.TheVariants as rows
use Rattle.cache_table.specs.declared.state.CopyState.{CopyState}
use Rattle.cache_table.specs.declared.state.CopyState.TheVariants as copy_states
use Rattle.protocol_coherence.proofs.Each.{each_state, each_state-at, if_go, if_go-at, implies-at, left, not-at, right}
use Rattle.protocol_coherence.specs.Fit.{◌implies◌, is_counting}
use Rattle.slice_core_cache.specs.Kept.{stands_in_array}
use Rattle.slice_core_theory.specs.Blocks.{has_block}
use Rattle.slice_core_spec.specs.Plan.{event_of_forwarded}
use Rattle.slice_queues.specs.declared.message.ForwardedMessage.{ForwardedMessage}
use Rattle.slice_queues.specs.declared.message.ForwardedMessage.TheVariants as forwarded_messages

-- ---- a test of each row

pub if_go-counted : (p : CopyState → CacheSends → Bool) (come n : ℕ) (waits : CopyState)
    → p copy_states.M cache_sends.Nothing ≡ true → p waits cache_sends.Nothing ≡ true →
    if_go (row_by_count come n waits) p ≡ true
unfolding if_go
if_go-counted p come n waits last more = by (come == n) (nat_lt come n)
  where
    by : (a b : Bool)
        → if_go (if a then rows.Go copy_states.M cache_sends.Nothing else if b then rows.Go waits cache_sends.Nothing
        else rows.NoEntry) p ≡ true
    by true b = last
    by false true = more
    by false false = refl

-- ---- what is sent

number_of : CacheSends → ℕ
number_of cache_sends.Nothing = 0
number_of cache_sends.GetS = 1
number_of cache_sends.GetM = 2
number_of cache_sends.PutS = 3
number_of cache_sends.PutM = 4
number_of cache_sends.InvAckToRequester = 5
number_of cache_sends.DataToRequester = 6
number_of cache_sends.DataToRequesterAndHome = 7

numbered : ℕ → CacheSends
numbered n =
    if n == 0 then cache_sends.Nothing
    else if n == 1 then cache_sends.GetS
    else if n == 2 then cache_sends.GetM
    else if n == 3 then cache_sends.PutS
    else if n == 4 then cache_sends.PutM
    else if n == 5 then cache_sends.InvAckToRequester
    else if n == 6 then cache_sends.DataToRequester
    else cache_sends.DataToRequesterAndHome

numbered-back : (sent : CacheSends) → numbered (number_of sent) ≡ sent
unfolding number_of numbered
numbered-back cache_sends.Nothing = refl
numbered-back _ = refl

unfoldable is_sending : CacheSends → CacheSends → Bool
is_sending wanted sent = number_of sent == number_of wanted

is_sending-at : (wanted sent : CacheSends) → is_sending wanted sent ≡ true → sent ≡ wanted
unfolding is_sending
is_sending-at wanted sent same =
    sym (numbered-back sent) ∙ ap numbered (eqb-true (number_of sent) (number_of wanted) same) ∙ numbered-back wanted

-- ---- forwarded messages

-- What a forwarded message has a core send.
abbrev pub sends_for : ForwardedMessage → CacheSends
sends_for (forwarded_messages.Inv core) = cache_sends.InvAckToRequester
sends_for (forwarded_messages.FwdGetS core) = cache_sends.DataToRequesterAndHome
sends_for (forwarded_messages.FwdGetM core) = cache_sends.DataToRequester
sends_for forwarded_messages.PutAck = cache_sends.Nothing

-- The row sends what the message is for. The copy doesn't come to count acknowledgements, nor to wait.
pub record IsAnswer (message : ForwardedMessage) (state next : CopyState) (sent : CacheSends) : Type 0 where
  pub sends : sent ≡ sends_for message
  pub not_counting : is_counting next ≡ false
  pub waited : is_waiting next ≡ true → is_waiting state ≡ true

unfoldable is_answer : CacheSends → CopyState → CopyState → CacheSends → Bool
is_answer wanted state next sent =
    is_sending wanted sent && not (is_counting next) && (is_waiting next implies is_waiting state)

answers_all : (message : ForwardedMessage) (state : CopyState)
    → if_go (row_of state (event_of_forwarded message)) (is_answer (sends_for message) state) ≡ true
unfolding each_state if_go is_answer is_sending number_of
answers_all (forwarded_messages.Inv core) =
    each_state-at (λ s. if_go (row_of s cache_events.Inv) (is_answer cache_sends.InvAckToRequester s)) refl
answers_all (forwarded_messages.FwdGetS core) =
    each_state-at (λ s. if_go (row_of s cache_events.FwdGetS) (is_answer cache_sends.DataToRequesterAndHome s)) refl
answers_all (forwarded_messages.FwdGetM core) =
    each_state-at (λ s. if_go (row_of s cache_events.FwdGetM) (is_answer cache_sends.DataToRequester s)) refl
answers_all forwarded_messages.PutAck =
    each_state-at (λ s. if_go (row_of s cache_events.PutAck) (is_answer cache_sends.Nothing s)) refl

pub answers : (message : ForwardedMessage) (state next : CopyState) (sent : CacheSends)
    → row_of state (event_of_forwarded message) ≡ rows.Go next sent → IsAnswer message state next sent
unfolding is_answer
answers message state next sent row =
    let wanted = sends_for message in
    let all = if_go-at (row_of state (event_of_forwarded message)) (is_answer wanted state) next sent
    (answers_all message state) row in
    let first =
    left (is_sending wanted sent && not (is_counting next)) (is_waiting next implies is_waiting state) all in
    record {
      sends = is_sending-at wanted sent (left (is_sending wanted sent) (not (is_counting next)) first);
      not_counting = not-at (is_counting next) (right (is_sending wanted sent) (not (is_counting next)) first);
      waited = implies-at (is_waiting next) (is_waiting state)
          (right (is_sending wanted sent && not (is_counting next)) (is_waiting next implies is_waiting state) all);
    }

-- A copy that has a block after a forwarded message, or gives its block on, had it before.
pub record KeepsBlock (state next : CopyState) (sent : CacheSends) : Type 0 where
  pub kept : has_block next ≡ true → has_block state ≡ true
  pub given : sends_data sent ≡ true → has_block state ≡ true

unfoldable keeps_block : CopyState → CopyState → CacheSends → Bool
keeps_block state next sent = (has_block next implies has_block state) && (sends_data sent implies has_block state)

keeps_all : (message : ForwardedMessage) (state : CopyState)
    → if_go (row_of state (event_of_forwarded message)) (keeps_block state) ≡ true
unfolding each_state if_go keeps_block
keeps_all (forwarded_messages.Inv core) = each_state-at (λ s. if_go (row_of s cache_events.Inv) (keeps_block s)) refl
keeps_all (forwarded_messages.FwdGetS core) =
    each_state-at (λ s. if_go (row_of s cache_events.FwdGetS) (keeps_block s)) refl
keeps_all (forwarded_messages.FwdGetM core) =
    each_state-at (λ s. if_go (row_of s cache_events.FwdGetM) (keeps_block s)) refl
keeps_all forwarded_messages.PutAck = each_state-at (λ s. if_go (row_of s cache_events.PutAck) (keeps_block s)) refl

pub keeps : (message : ForwardedMessage) (state next : CopyState) (sent : CacheSends)
    → row_of state (event_of_forwarded message) ≡ rows.Go next sent → KeepsBlock state next sent
unfolding keeps_block
keeps message state next sent row =
    let all = if_go-at (row_of state (event_of_forwarded message)) (keeps_block state) next sent
    (keeps_all message state) row in
    let first = has_block next implies has_block state in
    let second = sends_data sent implies has_block state in record {
      kept = implies-at (has_block next) (has_block state) (left first second all);
      given = implies-at (sends_data sent) (has_block state) (right first second all);
    }

-- ---- data and acknowledgements

-- A core that counts acknowledgements waits.
pub counting-waits : (state : CopyState) → is_counting state ≡ true → is_waiting state ≡ true
unfolding each_state
counting-waits state =
    implies-at (is_counting state) (is_waiting state)
    (each_state-at (λ s. is_counting s implies is_waiting s) refl state)

-- The copy waited, and is in the array afterwards; and nothing is sent.
pub record IsTaken (state next : CopyState) (sent : CacheSends) : Type 0 where
  pub sends : sent ≡ cache_sends.Nothing
  pub waited : is_waiting state ≡ true
  pub stands : stands_in_array next ≡ true

unfoldable is_taken : CopyState → CopyState → CacheSends → Bool
is_taken state next sent = is_sending cache_sends.Nothing sent && is_waiting state && stands_in_array next

taken-from : (state next : CopyState) (sent : CacheSends) → is_taken state next sent ≡ true → IsTaken state next sent
unfolding is_taken
taken-from state next sent all =
    let first = left (is_sending cache_sends.Nothing sent && is_waiting state) (stands_in_array next) all in record {
      sends = is_sending-at cache_sends.Nothing sent
          (left (is_sending cache_sends.Nothing sent) (is_waiting state) first);
      waited = right (is_sending cache_sends.Nothing sent) (is_waiting state) first;
      stands = right (is_sending cache_sends.Nothing sent && is_waiting state) (stands_in_array next) all;
    }

taken-at : (state next : CopyState) (sent : CacheSends) (row : Row) → if_go row (is_taken state) ≡ true
    → row ≡ rows.Go next sent → IsTaken state next sent
taken-at state next sent row tested is =
    taken-from state next sent (if_go-at row (is_taken state) next sent tested is)

data_all : (n k : ℕ) (state : CopyState) → if_go (row_of state (cache_events.Data n k)) (is_taken state) ≡ true
unfolding if_go is_taken is_sending number_of
data_all n k copy_states.IM_AD = if_go-counted (is_taken copy_states.IM_AD) k n copy_states.IM_A refl refl
data_all n k copy_states.SM_AD = if_go-counted (is_taken copy_states.SM_AD) k n copy_states.SM_A refl refl
data_all n k _ = refl

pub data-taken : (n k : ℕ) (state next : CopyState) (sent : CacheSends)
    → row_of state (cache_events.Data n k) ≡ rows.Go next sent → IsTaken state next sent
data-taken n k state next sent = taken-at state next sent (row_of state (cache_events.Data n k)) (data_all n k state)

only_all : (loads : Bool) (state : CopyState) → if_go (row_of state (cache_events.DataE loads)) (is_taken state) ≡ true
unfolding each_state if_go is_taken is_sending number_of
only_all true = each_state-at (λ s. if_go (row_of s (cache_events.DataE true)) (is_taken s)) refl
only_all false = each_state-at (λ s. if_go (row_of s (cache_events.DataE false)) (is_taken s)) refl

pub only-taken : (loads : Bool) (state next : CopyState) (sent : CacheSends)
    → row_of state (cache_events.DataE loads) ≡ rows.Go next sent → IsTaken state next sent
only-taken loads state next sent =
    taken-at state next sent (row_of state (cache_events.DataE loads)) (only_all loads state)

unfoldable is_counted : CopyState → CopyState → CacheSends → Bool
is_counted state next sent = is_taken state next sent && (is_counting next implies is_counting state)

ack_all : (n k : ℕ) (state : CopyState) → if_go (row_of state (cache_events.InvAck n k)) (is_counted state) ≡ true
unfolding if_go is_counted is_taken is_sending number_of
ack_all n k copy_states.IM_A = if_go-counted (is_counted copy_states.IM_A) (k + 1) n copy_states.IM_A refl refl
ack_all n k copy_states.SM_A = if_go-counted (is_counted copy_states.SM_A) (k + 1) n copy_states.SM_A refl refl
ack_all n k _ = refl

-- An acknowledgement has no copy come to count.
pub ack-taken : (n k : ℕ) (state next : CopyState) (sent : CacheSends)
    → row_of state (cache_events.InvAck n k) ≡ rows.Go next sent
    → IsTaken state next sent × (is_counting next ≡ true → is_counting state ≡ true)
unfolding is_counted
ack-taken n k state next sent row =
    let all = if_go-at (row_of state (cache_events.InvAck n k)) (is_counted state) next sent (ack_all n k state) row in (
      taken-from state next sent (left (is_taken state next sent) (is_counting next implies is_counting state) all),
      implies-at (is_counting next) (is_counting state)
          (right (is_taken state next sent) (is_counting next implies is_counting state) all),
    )

-- How many acknowledgements are wanted matters only to a copy that counts them.
pub ack_row-same : (state : CopyState) (n wants k : ℕ) → (is_counting state ≡ true → n ≡ wants)
    → row_of state (cache_events.InvAck n k) ≡ row_of state (cache_events.InvAck wants k)
ack_row-same copy_states.IM_A n wants k same = ap (λ w. row_of copy_states.IM_A (cache_events.InvAck w k)) (same refl)
ack_row-same copy_states.SM_A n wants k same = ap (λ w. row_of copy_states.SM_A (cache_events.InvAck w k)) (same refl)
ack_row-same _ n wants k same = refl
