-- Who tried each next state, and with it each message that is read, tried each row.
use Rattle.std.proofs.Common.{◌≢◌, true, ℕ, List, lit<}
use Rattle.std.specs.List.{All}
use Rattle.cache_table.specs.declared.state.CopyState.{CopyState}
use Rattle.cache_table.specs.declared.state.CopyState.TheVariants as copy_states
use Rattle.cache_table.specs.declared.row.CacheSends.{CacheSends}
use Rattle.cache_table.specs.declared.row.CacheSends.TheVariants as cache_sends
use Rattle.cache_table.specs.declared.row.Row.TheVariants as rows
use Rattle.protocol_tables.specs.CacheRows.{states_of}
use Rattle.protocol_tables.specs.declared.cache_rows.CacheCase.{CacheCase}
use Rattle.protocol_tables.specs.declared.cache_rows.CacheCase.TheVariants as cases
use Rattle.protocol_tables.specs.declared.cache_rows.Counted.TheVariants as counted
use Rattle.changed_tables.specs.CacheText.{NoneSays, row_text, sends_at}

-- every state is in the list
pub each_state : (P : CopyState → Type 0) → All P (states_of true) → (state : CopyState) → P state
each_state P all copy_states.I = all 0 copy_states.I (lit< tt)
each_state P all copy_states.IS_D = all 1 copy_states.I (lit< tt)
each_state P all copy_states.IM_AD = all 2 copy_states.I (lit< tt)
each_state P all copy_states.IM_A = all 3 copy_states.I (lit< tt)
each_state P all copy_states.S = all 4 copy_states.I (lit< tt)
each_state P all copy_states.SM_AD = all 5 copy_states.I (lit< tt)
each_state P all copy_states.SM_A = all 6 copy_states.I (lit< tt)
each_state P all copy_states.M = all 7 copy_states.I (lit< tt)
each_state P all copy_states.MI_A = all 8 copy_states.I (lit< tt)
each_state P all copy_states.SI_A = all 9 copy_states.I (lit< tt)
each_state P all copy_states.II_A = all 10 copy_states.I (lit< tt)
each_state P all copy_states.E = all 11 copy_states.I (lit< tt)

-- every message is in the list where acknowledgements aren't counted
each_message : (P : CacheSends → Type 0) → All P (sends_at cases.Load) → (sent : CacheSends) → P sent
each_message P all cache_sends.Nothing = all 0 cache_sends.Nothing (lit< tt)
each_message P all cache_sends.GetS = all 1 cache_sends.Nothing (lit< tt)
each_message P all cache_sends.GetM = all 2 cache_sends.Nothing (lit< tt)
each_message P all cache_sends.PutS = all 3 cache_sends.Nothing (lit< tt)
each_message P all cache_sends.PutM = all 4 cache_sends.Nothing (lit< tt)
each_message P all cache_sends.InvAckToRequester = all 5 cache_sends.Nothing (lit< tt)
each_message P all cache_sends.DataToRequester = all 6 cache_sends.Nothing (lit< tt)
each_message P all cache_sends.DataToRequesterAndHome = all 7 cache_sends.Nothing (lit< tt)

-- and where they are each row prints as the one that sends nothing
pub none_sent : (next : CopyState) (case : CacheCase) (word : List ℕ)
    → All (λ sent. row_text case (rows.Go next sent) ≢ word) (sends_at case)
    → (sent : CacheSends) → row_text case (rows.Go next sent) ≢ word
none_sent next (cases.InvAck counted.Equal) word all sent = all 0 cache_sends.Nothing (lit< tt)
none_sent next (cases.InvAck counted.Less) word all sent = all 0 cache_sends.Nothing (lit< tt)
none_sent next (cases.InvAck counted.More) word all sent = all 0 cache_sends.Nothing (lit< tt)
none_sent next case word all sent = each_message (λ tried. row_text case (rows.Go next tried) ≢ word) all sent

-- none of the rows says the word
pub none_says : (case : CacheCase) (word : List ℕ) → row_text case rows.Blocked ≢ word → row_text case rows.NoEntry ≢ word
    → All (λ next. (sent : CacheSends) → row_text case (rows.Go next sent) ≢ word) (states_of true) → NoneSays case word
none_says case word blocked none goes rows.Blocked = blocked
none_says case word blocked none goes rows.NoEntry = none
none_says case word blocked none goes (rows.Go next sent) =
    each_state (λ state. (message : CacheSends) → row_text case (rows.Go state message) ≢ word) goes next sent
