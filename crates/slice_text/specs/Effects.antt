-- What is done at a case, effect by effect, in the words of the tables.
use Rattle.std.specs.Prelude.{◌==◌, ◌+◌, ◌-◌, nat_lt, Bool, ℕ, List, ◌++◌, codes, decimal, Option, Some, None}
use Rattle.std.specs.Prelude.{if◌then◌else◌}
use Rattle.address_map.specs.CoreSet.{members}
use Rattle.address_map.specs.declared.address.CoreId.{CoreId}
use Rattle.cache_table.specs.Name.{name_of as name_of_copy}
use Rattle.cache_table.specs.declared.row.CacheSends.{CacheSends}
use Rattle.cache_table.specs.declared.row.CacheSends.TheVariants as cache_sends
use Rattle.cache_table.specs.declared.state.CopyState.{CopyState}
use Rattle.cache_table.specs.declared.state.CopyState.TheVariants as copy_states
use Rattle.directory_table.specs.Name.{name_of as name_of_entry}
use Rattle.directory_table.specs.declared.row.DirSends.{DirSends}
use Rattle.directory_table.specs.declared.row.DirSends.TheVariants as dir_sends
use Rattle.directory_table.specs.declared.state.DirState.{DirState}
use Rattle.directory_table.specs.declared.state.DirState.TheVariants as dir_states
use Rattle.slice_answer.specs.declared.answer.Cell.{Cell}
use Rattle.slice_answer.specs.declared.answer.Cell.TheVariants as cells
use Rattle.slice_queues.specs.declared.message.Message.{Message}
use Rattle.slice_text.specs.Cores.{text_of_cores, text_of_invalidations}
use Rattle.slice_text.specs.Message.{text_of_message}
use Rattle.slice_text.specs.declared.step.case.Who.{Who}
use Rattle.slice_text.specs.declared.step.case.Who.TheVariants as whos

-- ---- states

-- an entry: its state with the owner, or with the sharers if it has any
abbrev pub text_of_entry : DirState → Option CoreId → ℕ → List ℕ
text_of_entry state (Some owner) sharers = name_of_entry state ++ codes ", owner " ++ decimal owner.0
text_of_entry state None sharers =
    if sharers == 0 then name_of_entry state else name_of_entry state ++ codes ", sharers "
    ++ text_of_cores (members sharers)

-- what an entry or a copy in this state waits for
abbrev pub awaited_in_entry : DirState → List ℕ
awaited_in_entry dir_states.S_D = codes "Data home"
awaited_in_entry state = codes "nothing"

abbrev pub awaited_in_copy : CopyState → List ℕ
awaited_in_copy copy_states.IS_D = codes "Data"
awaited_in_copy copy_states.IM_AD = codes "Data and Inv-Ack"
awaited_in_copy copy_states.IM_A = codes "Inv-Ack"
awaited_in_copy copy_states.SM_AD = codes "Data and Inv-Ack"
awaited_in_copy copy_states.SM_A = codes "Inv-Ack"
awaited_in_copy copy_states.MI_A = codes "Put-Ack"
awaited_in_copy copy_states.SI_A = codes "Put-Ack"
awaited_in_copy copy_states.II_A = codes "Put-Ack"
awaited_in_copy state = codes "nothing"

abbrev pub text_of_awaited : Who → List ℕ
text_of_awaited (whos.Directory slice state) = awaited_in_entry state
text_of_awaited (whos.Core core state) = awaited_in_copy state

-- ---- effects

-- what a row of the directory's table sends for a core's request
abbrev pub text_of_dir_sends : CoreId → DirSends → List ℕ
text_of_dir_sends core dir_sends.Nothing = codes ""
text_of_dir_sends core (dir_sends.Data acks) =
    codes "; sends Data(" ++ decimal acks ++ codes ") to core " ++ decimal core.0
text_of_dir_sends core dir_sends.DataE = codes "; sends Data-E to core " ++ decimal core.0
text_of_dir_sends core (dir_sends.DataAndInv acks invalidated) =
    codes "; sends Data(" ++ decimal acks ++ codes ") to core " ++ decimal core.0
    ++ text_of_invalidations (members invalidated)
text_of_dir_sends core (dir_sends.FwdGetS owner) = codes "; sends Fwd-GetS to core " ++ decimal owner.0
text_of_dir_sends core (dir_sends.FwdGetM owner) = codes "; sends Fwd-GetM to core " ++ decimal owner.0
text_of_dir_sends core dir_sends.PutAck = codes "; sends Put-Ack to core " ++ decimal core.0

-- a block on its way home, after another message
abbrev pub text_of_block : ℕ → List ℕ
text_of_block slice = codes ", Data home to dir " ++ decimal slice

-- what a row of the cache's table sends for a forwarded message, which makes no request
abbrev pub text_of_cache_sends : ℕ → CoreId → CacheSends → List ℕ
text_of_cache_sends slice requester cache_sends.DataToRequester =
    codes "; sends Data(0) to core " ++ decimal requester.0
text_of_cache_sends slice requester cache_sends.DataToRequesterAndHome =
    codes "; sends Data(0) to core " ++ decimal requester.0 ++ text_of_block slice
text_of_cache_sends slice requester cache_sends.InvAckToRequester =
    codes "; sends Inv-Ack to core " ++ decimal requester.0
text_of_cache_sends slice requester sent = codes ""

-- the block that came along is the home copy
abbrev pub text_of_home : Bool → List ℕ
text_of_home writes = if writes then codes "; block home" else codes ""

-- the accesses that were performed, by their numbers in the log: those from first up to the one before end
abbrev pub text_of_numbers : ℕ → ℕ → List ℕ
text_of_numbers first end =
    if nat_lt first end
    then (if first + 1 == end then codes "; performs number " ++ decimal first
    else codes "; performs numbers " ++ decimal first ++ codes " to " ++ decimal (end - 1))
    else codes ""

-- the message that the core sent to the directory when its copy went on, and the state of the copy then
abbrev pub text_of_asked : ℕ → Option Message → CopyState → List ℕ
text_of_asked slice None state = codes ""
text_of_asked slice (Some message) state =
    codes "; sends " ++ text_of_message message ++ codes " to dir " ++ decimal slice
    ++ codes "; to " ++ name_of_copy state

-- why a message can't be taken
abbrev pub text_of_broken : Cell → List ℕ
text_of_broken cells.Entry = codes "no row"
text_of_broken cells.Full = codes "no room for what it sends"
text_of_broken cells.Early = codes "its own request still waits"
