-- What is true of each core by itself: how its copy, its channels and the directory's entry fit together.
use Rattle.std.specs.Prelude.{◌&&◌, ◌||◌, Bool, true, false, not}
use Rattle.cache_table.specs.CopyState.{is_leaving, is_readable, is_writer}
use Rattle.cache_table.specs.declared.state.CopyState.{CopyState}
use Rattle.cache_table.specs.declared.state.CopyState.TheVariants as copy_states
use Rattle.directory_table.specs.Law.{is_awaited, is_modified, is_shared}
use Rattle.directory_table.specs.declared.state.DirState.{DirState}
use Rattle.protocol_coherence.specs.Line.{Forward, fwd_get_m, fwd_get_s, no_forward, Incoming, no_data, only_data}
use Rattle.protocol_coherence.specs.Line.{shared_data, Look, Near, Request, get_m, get_s, no_request, put_m, put_s}

-- The first implies the second.
abbrev pub ◌implies◌ : Bool → Bool → Bool
◌implies◌ true b = b
◌implies◌ false b = true

infixr 20 ◌implies◌
-- Both, or neither.
abbrev pub ◌iff◌ : Bool → Bool → Bool
◌iff◌ true b = b
◌iff◌ false b = not b

infixr 20 ◌iff◌
-- ---- requests, data and forwarded requests by kind

-- The request channel is empty.
abbrev pub is_no_request : Request → Bool
is_no_request no_request = true
is_no_request _ = false

-- GetS waits: the core asks to read.
abbrev pub is_get_s : Request → Bool
is_get_s get_s = true
is_get_s _ = false

-- GetM waits: the core asks to write.
abbrev pub is_get_m : Request → Bool
is_get_m get_m = true
is_get_m _ = false

-- PutS waits: a shared copy was evicted.
abbrev pub is_put_s : Request → Bool
is_put_s put_s = true
is_put_s _ = false

-- PutM waits: the only copy was evicted.
abbrev pub is_put_m : Request → Bool
is_put_m put_m = true
is_put_m _ = false

-- A Put waits.
abbrev pub is_put : Request → Bool
is_put put_s = true
is_put put_m = true
is_put _ = false

-- The data channel is empty.
abbrev pub is_no_data : Incoming → Bool
is_no_data no_data = true
is_no_data _ = false

-- Data wait.
abbrev pub is_shared_data : Incoming → Bool
is_shared_data shared_data = true
is_shared_data _ = false

-- Data-E wait.
abbrev pub is_only_data : Incoming → Bool
is_only_data only_data = true
is_only_data _ = false

-- No forwarded request waits for the core.
abbrev pub is_no_forward : Forward → Bool
is_no_forward no_forward = true
is_no_forward _ = false

-- Fwd-GetS waits: another core reads.
abbrev pub is_fwd_get_s : Forward → Bool
is_fwd_get_s fwd_get_s = true
is_fwd_get_s _ = false

-- Fwd-GetM waits: another core writes.
abbrev pub is_fwd_get_m : Forward → Bool
is_fwd_get_m fwd_get_m = true
is_fwd_get_m _ = false

-- ---- states by what they wait for

-- a read missed
abbrev pub is_reading : CopyState → Bool
is_reading copy_states.IS_D = true
is_reading _ = false

-- a write missed, and the data have not been taken
abbrev pub is_writing : CopyState → Bool
is_writing copy_states.IM_AD = true
is_writing copy_states.SM_AD = true
is_writing _ = false

-- a write missed, the data have been taken, and acknowledgements are missing
abbrev pub is_counting : CopyState → Bool
is_counting copy_states.IM_A = true
is_counting copy_states.SM_A = true
is_counting _ = false

-- evicted as the only copy
abbrev pub is_written_back : CopyState → Bool
is_written_back copy_states.MI_A = true
is_written_back _ = false

-- S alone
abbrev pub is_shared_copy : CopyState → Bool
is_shared_copy copy_states.S = true
is_shared_copy _ = false

-- evicted as a shared copy
abbrev pub is_dropped : CopyState → Bool
is_dropped copy_states.SI_A = true
is_dropped _ = false

-- ---- words for a core

-- A Put-Ack is at the front of the core's forwarded channel.
unfoldable pub is_put_ack_first : Look → Bool
is_put_ack_first look = look.put_ack && not look.inv && is_no_forward look.forward

-- The directory has served the core's request for the only copy, and the core has not given the line on.
unfoldable pub is_granted : Look → Bool
is_granted look =
    is_writer look.state
    || is_counting look.state
    || (is_writing look.state && is_no_request look.request)
    || (is_written_back look.state && not (is_put_ack_first look))
    || (is_reading look.state && is_only_data look.incoming)

-- The core has the line's data as the only copy, or they are on their way to it.
unfoldable pub holder : Look → Bool
holder look =
    is_writer look.state
    || is_counting look.state
    || (is_writing look.state && not (is_no_data look.incoming))
    || (is_written_back look.state && not (is_put_ack_first look))
    || (is_reading look.state && is_only_data look.incoming)

-- The core may read the line, or has data on their way that will allow it.
unfoldable pub comes : Look → Bool
comes look = is_readable look.state || (is_reading look.state && not (is_no_data look.incoming))

-- What a sharer looks like whenever an Inv may be sent to it.
unfoldable pub clean : Look → Bool
clean look =
    is_shared_copy look.state
    || (is_writing look.state && is_get_m look.request && is_readable look.state)
    || (is_dropped look.state && is_put look.request)
    || (is_reading look.state && is_shared_data look.incoming)

-- The core's request to read was taken, and its data are not on their way.
unfoldable pub waits_to_read : Look → Bool
waits_to_read look = is_reading look.state && is_no_request look.request && is_no_data look.incoming

-- The core's request to write was taken, and its data are not on their way.
unfoldable pub waits_to_write : Look → Bool
waits_to_write look = is_writing look.state && is_no_request look.request && is_no_data look.incoming

-- The core knows how many Inv-Acks it awaits, or the Data that say so are on their way.
unfoldable pub awaits : Look → Bool
awaits look = is_counting look.state || (is_writing look.state && not (is_no_data look.incoming))

-- An Inv-Ack of this core is still to be taken.
unfoldable pub owes : Look → Bool
owes look = look.inv || look.sent

-- ---- words for the directory

-- The sharers may read, and the home copy is current or about to be.
unfoldable pub is_open : DirState → Bool → Bool
is_open directory home = is_shared directory || home

-- The last owner is asked for the block.
unfoldable pub is_asked : DirState → Bool → Bool
is_asked directory home = is_awaited directory && not home

-- ---- facts

-- A request belongs to a miss or to an eviction, and the owner never sends PutS.
unfoldable pub request_fits : CopyState → Request → Bool
request_fits state request =
    (is_get_s request implies is_reading state)
    && (is_get_m request implies is_writing state)
    && (is_put request implies is_leaving state)
    && (is_put_s request implies not (is_written_back state))

-- Data come only to who awaits them, after its request was taken.
unfoldable pub data_fits : CopyState → Request → Incoming → Bool
data_fits state request incoming =
    (is_shared_data incoming implies is_no_request request && (is_reading state || is_writing state))
    && (is_only_data incoming implies is_no_request request && is_reading state)

-- A copy on its way out has its Put or its Put-Ack, never both.
unfoldable pub put_fits : CopyState → Request → Bool → Bool
put_fits state request put_ack =
    (is_leaving state iff (is_put request || put_ack)) && not (is_put request && put_ack)

-- An Inv finds a row, now or after the data.
unfoldable pub inv_fits : CopyState → Incoming → Bool → Bool
inv_fits state incoming inv =
    inv implies (is_shared_copy state || (is_writing state && is_readable state) || is_dropped state
    || (is_reading state && is_shared_data incoming))

-- A core owes one Inv-Ack at most, and the keeper none.
unfoldable pub debt_fits : Bool → Bool → Bool → Bool
debt_fits inv sent keeper = not (inv && sent) && (keeper implies not (inv || sent))

-- A block comes home only while the directory waits for it, and an owner is in the entry only in M.
unfoldable pub directory_fits : DirState → Bool → Bool → Bool
directory_fits directory home owner = (home implies is_awaited directory) && (owner implies is_modified directory)

-- A core that owns the line or is asked for it was granted it, and no core is asked twice.
unfoldable pub owner_fits : Look → Bool → Bool
owner_fits look owner = (owner implies is_granted look && is_no_forward look.forward)
    && (not (is_no_forward look.forward) implies is_granted look)

-- A holder is the keeper, and while there is one the home copy isn't current.
unfoldable pub holder_fits : Look → DirState → Bool → Bool → Bool
holder_fits look directory home keeper = holder look implies (keeper && not home
    && (is_modified directory || is_awaited directory))

-- Who reads is the holder, is about to be invalidated, or is known to the directory.
unfoldable pub reader_fits : Look → DirState → Bool → Bool → Bool
reader_fits look directory home sharer = comes look implies (holder look || look.inv
    || (is_open directory home && sharer))

-- An Inv can be sent to every sharer.
unfoldable pub sharer_fits : Look → DirState → Bool → Bool → Bool
sharer_fits look directory home sharer = (is_open directory home && sharer) implies clean look

-- While the last owner is asked for the block, the forwarded request waits for it.
unfoldable pub server_fits : Look → DirState → Bool → Bool → Bool
server_fits look directory home server = is_fwd_get_s look.forward iff (is_asked directory home && server)

-- Meanwhile who asks waits to read, and the sharers are who asks and who is asked.
unfoldable pub asker_fits : Look → DirState → Bool → Bool → Bool → Bool → Bool
asker_fits look directory home sharer server asker =
    is_asked directory home implies (
    (sharer iff (asker || (server && not look.put_ack)))
    && (asker implies waits_to_read look)
    )

-- All facts of a core by itself.
unfoldable pub is_fit : Near → Look → Bool
is_fit near look =
    request_fits look.state look.request
    && data_fits look.state look.request look.incoming
    && put_fits look.state look.request look.put_ack
    && inv_fits look.state look.incoming look.inv
    && directory_fits near.directory near.home near.owner
    && owner_fits look near.owner
    && debt_fits look.inv look.sent near.keeper
    && holder_fits look near.directory near.home near.keeper
    && sharer_fits look near.directory near.home near.sharer
    && reader_fits look near.directory near.home near.sharer
    && server_fits look near.directory near.home near.server
    && asker_fits look near.directory near.home near.sharer near.server near.asker
