-- The laws leave each row no choice: a state is known from its facts, and what is sent from what it is.
use Rattle.std.proofs.Common.{◌≡◌, Bool, if◌then◌else◌, refl, sym, ◌∙◌}
use Rattle.cache_table.specs.CopyState.{is_leaving, is_readable, is_waiting, is_writer}
use Rattle.cache_table.specs.Law.{IsLawful, asked_to_write, awaits_data, holds_data, is_clean, is_sharer, sends_data}
use Rattle.cache_table.specs.Law.{sends_get, sends_get_m, sends_home, sends_inv_ack, sends_put, sends_put_m}
use Rattle.cache_table.specs.declared.state.CopyState.{CopyState}
use Rattle.cache_table.specs.declared.state.CopyState.TheVariants as copy_states
use Rattle.cache_table.specs.declared.row.CacheEvent.{CacheEvent}
use Rattle.cache_table.specs.declared.row.CacheSends.{CacheSends}
use Rattle.cache_table.specs.declared.row.CacheSends.TheVariants as cache_sends
use Rattle.cache_table.specs.declared.row.Row.{Row}
use Rattle.cache_table.specs.declared.row.Row.TheVariants as rows

-- the state that these facts describe
abbrev state_from : (reads writes clean waits data_missing to_write leaves holds shares : Bool) → CopyState
state_from reads writes clean waits data_missing to_write leaves holds shares =
    if clean then copy_states.E
    else if writes then copy_states.M
    else if to_write then (
    if data_missing then (if reads then copy_states.SM_AD else copy_states.IM_AD)
    else (if reads then copy_states.SM_A else copy_states.IM_A)
    )
    else if waits then copy_states.IS_D
    else if leaves then (if holds then copy_states.MI_A else if shares then copy_states.SI_A else copy_states.II_A)
    else if reads then copy_states.S
    else copy_states.I

abbrev state_told : CopyState → CopyState
state_told s =
    state_from (is_readable s) (is_writer s) (is_clean s) (is_waiting s) (awaits_data s) (asked_to_write s)
    (is_leaving s)
    (holds_data s) (is_sharer s)

state_from-told : (s : CopyState) → state_told s ≡ s
state_from-told copy_states.I = refl
state_from-told _ = refl

-- the message that these facts describe
abbrev sends_from : (to_requester home acknowledgement get get_m put put_m : Bool) → CacheSends
sends_from to_requester home acknowledgement get get_m put put_m =
    if home then cache_sends.DataToRequesterAndHome
    else if to_requester then cache_sends.DataToRequester
    else if acknowledgement then cache_sends.InvAckToRequester
    else if get_m then cache_sends.GetM
    else if get then cache_sends.GetS
    else if put_m then cache_sends.PutM
    else if put then cache_sends.PutS
    else cache_sends.Nothing

abbrev sends_told : CacheSends → CacheSends
sends_told x =
    sends_from (sends_data x) (sends_home x) (sends_inv_ack x) (sends_get x) (sends_get_m x) (sends_put x)
    (sends_put_m x)

sends_from-told : (x : CacheSends) → sends_told x ≡ x
sends_from-told cache_sends.Nothing = refl
sends_from-told _ = refl

same_told : (a b : CopyState) → is_readable a ≡ is_readable b → is_writer a ≡ is_writer b → is_clean a ≡ is_clean b
    → is_waiting a ≡ is_waiting b → awaits_data a ≡ awaits_data b → asked_to_write a ≡ asked_to_write b
    → is_leaving a ≡ is_leaving b → holds_data a ≡ holds_data b → is_sharer a ≡ is_sharer b
    → state_told a ≡ state_told b
same_told a b reads writes clean waits data_missing to_write leaves holds shares = cc

same_sends_told : (x y : CacheSends) → sends_data x ≡ sends_data y → sends_home x ≡ sends_home y
    → sends_inv_ack x ≡ sends_inv_ack y → sends_get x ≡ sends_get y → sends_get_m x ≡ sends_get_m y
    → sends_put x ≡ sends_put y → sends_put_m x ≡ sends_put_m y → sends_told x ≡ sends_told y
same_sends_told x y to_requester home acknowledgement get get_m put put_m = cc

-- Two rows that go on and obey the laws go to one state, and send one message.
same_state : (state : CopyState) (event : CacheEvent) (a b : CopyState) (x y : CacheSends)
    → IsLawful state event (rows.Go a x) → IsLawful state event (rows.Go b y) → a ≡ b
same_state state event a b x y one other =
    let told =
    same_told a b (one.read_right ∙ sym other.read_right) (one.write_right.right ∙ sym other.write_right.right)
    (one.write_right.clean ∙ sym other.write_right.clean) (one.miss.miss ∙ sym other.miss.miss)
    (one.miss.data_missing ∙ sym other.miss.data_missing) (one.miss.to_write ∙ sym other.miss.to_write)
    (one.eviction ∙ sym other.eviction) (one.held ∙ sym other.held) (one.shared ∙ sym other.shared)
    in
    sym (state_from-told a) ∙ told ∙ state_from-told b

same_sends : (state : CopyState) (event : CacheEvent) (a b : CopyState) (x y : CacheSends)
    → IsLawful state event (rows.Go a x) → IsLawful state event (rows.Go b y) → x ≡ y
same_sends state event a b x y one other =
    let told =
    same_sends_told x y (one.answered.answer ∙ sym other.answered.answer) (one.answered.home ∙ sym other.answered.home)
    (one.answered.acknowledgement ∙ sym other.answered.acknowledgement) (one.asked.miss ∙ sym other.asked.miss)
    (one.asked.to_write ∙ sym other.asked.to_write) (one.asked.eviction ∙ sym other.asked.eviction)
    (one.asked.block ∙ sym other.asked.block)
    in
    sym (sends_from-told x) ∙ told ∙ sends_from-told y

go-same : (a b : CopyState) (x y : CacheSends) → a ≡ b → x ≡ y → rows.Go a x ≡ rows.Go b y
go-same a b x y e f = cc

-- Two rows that obey the laws at a state and an event are one.
pub IsLawful-only : (state : CopyState) (event : CacheEvent) (row other : Row)
    → IsLawful state event row → IsLawful state event other → other ≡ row
IsLawful-only state event (rows.Go a x) (rows.Go b y) one other =
    go-same b a y x (same_state state event b a y x other one) (same_sends state event b a y x other one)
IsLawful-only state event rows.Blocked rows.Blocked one other = refl
IsLawful-only state event rows.NoEntry rows.NoEntry one other = refl
IsLawful-only state event _ _ one other = cc (one.blocked, other.blocked, one.entry, other.entry)
