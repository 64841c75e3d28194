-- The machine moves: runs in which a core comes to write, and in which two cores come to read.
use Rattle.std.proofs.Common.{Bool, true, false, ℕ, Option, refl, arith, Some, None, replicate}
use Rattle.address_map.specs.declared.address.CoreId.{CoreId}
use Rattle.address_map.specs.declared.block.Block.{Block}
use Rattle.address_map.specs.CoreSet.{only, with}
use Rattle.cache_table.specs.declared.row.CacheEvent.TheVariants as cache_events
use Rattle.cache_table.specs.declared.row.CacheSends.TheVariants as cache_sends
use Rattle.cache_table.specs.declared.state.CopyState.TheVariants as copy_states
use Rattle.directory_table.specs.declared.row.DirEvent.TheVariants as dir_events
use Rattle.directory_table.specs.declared.row.DirSends.{DirSends}
use Rattle.directory_table.specs.declared.row.DirSends.TheVariants as dir_sends
use Rattle.directory_table.specs.declared.row.DirStep.{DirStep}
use Rattle.directory_table.specs.declared.state.DirState.{DirState}
use Rattle.directory_table.specs.declared.state.DirState.TheVariants as dir_states
use Rattle.protocol_coherence.specs.Line.{Line}
use Rattle.protocol_coherence.specs.LineSteps.{Reached, after_service, after_turn, beginning, first, further, serve}
use Rattle.protocol_coherence.specs.LineSteps.{turn}
use Rattle.protocol_coherence.specs.Promise.{CanBeRead, CanBeWritten}

abbrev core_0 : CoreId
core_0 = record { 0 = 0 }

abbrev core_1 : CoreId
core_1 = record { 0 = 1 }

zeros : Block
zeros = record { words = replicate 8 0 }

-- what the directory does, and leaves the home copy as it is
abbrev goes : DirState → Option CoreId → ℕ → DirSends → DirStep
goes state owner sharers sent =
    record { state = state; owner = owner; sharers = sharers; sends = sent; writes_home = false }

-- ---- core 0 writes a line that no core has

abbrev granted_0 : DirStep
granted_0 = goes dir_states.M (Some core_0) 0 (dir_sends.Data 0)

abbrev write_asked : Line
write_asked = after_turn first 0 cache_events.Write copy_states.IM_AD cache_sends.GetM

abbrev write_served : Line
write_served = after_service write_asked (dir_events.GetM core_0) granted_0

abbrev written : Line
written = after_turn write_served 0 (cache_events.Data 0 0) copy_states.M cache_sends.Nothing

served : (exclusive : Bool) → Reached exclusive 2 write_asked → Reached exclusive 2 write_served
served true before = further before (serve (dir_events.GetM core_0) zeros granted_0 (omega arith) refl refl)
served false before = further before (serve (dir_events.GetM core_0) zeros granted_0 (omega arith) refl refl)

pub can_be_written : (exclusive : Bool) → CanBeWritten exclusive
can_be_written exclusive =
    let asked : Reached exclusive 2 write_asked =
    further beginning (turn 0 cache_events.Write copy_states.IM_AD cache_sends.GetM (omega arith) refl refl) in
    let got : Reached exclusive 2 written =
    further (served exclusive asked)
    (turn 0 (cache_events.Data 0 0) copy_states.M cache_sends.Nothing (omega arith) refl refl) in
    (written, got, refl)

-- ---- two cores read it, each served with the home copy

abbrev shared_0 : DirStep
shared_0 = goes dir_states.S None (only 0) (dir_sends.Data 0)

abbrev shared_by_both : DirStep
shared_by_both = goes dir_states.S None (with (only 0) 1) (dir_sends.Data 0)

abbrev read_0 : Line
read_0 = after_turn first 0 cache_events.Load copy_states.IS_D cache_sends.GetS

abbrev sent_0 : Line
sent_0 = after_service read_0 (dir_events.GetS core_0) shared_0

abbrev got_0 : Line
got_0 = after_turn sent_0 0 (cache_events.Data 0 0) copy_states.S cache_sends.Nothing

abbrev read_1 : Line
read_1 = after_turn got_0 1 cache_events.Load copy_states.IS_D cache_sends.GetS

abbrev sent_1 : Line
sent_1 = after_service read_1 (dir_events.GetS core_1) shared_by_both

abbrev got_1 : Line
got_1 = after_turn sent_1 1 (cache_events.Data 0 0) copy_states.S cache_sends.Nothing

-- ---- the same with the exclusive state: the second reader is served by the first

abbrev owned_0 : DirStep
owned_0 = goes dir_states.M (Some core_0) 0 dir_sends.DataE

abbrev forwarded_1 : DirStep
forwarded_1 = goes dir_states.S_D None (with (only 0) 1) (dir_sends.FwdGetS core_0)

abbrev given_0 : Line
given_0 = after_service read_0 (dir_events.GetS core_0) owned_0

abbrev only_0 : Line
only_0 = after_turn given_0 0 (cache_events.DataE true) copy_states.E cache_sends.Nothing

abbrev asked_1 : Line
asked_1 = after_turn only_0 1 cache_events.Load copy_states.IS_D cache_sends.GetS

abbrev passed_1 : Line
passed_1 = after_service asked_1 (dir_events.GetS core_1) forwarded_1

abbrev shared_1 : Line
shared_1 = after_turn passed_1 0 cache_events.FwdGetS copy_states.S cache_sends.DataToRequesterAndHome

abbrev both : Line
both = after_turn shared_1 1 (cache_events.Data 0 0) copy_states.S cache_sends.Nothing

pub can_be_read : (exclusive : Bool) → CanBeRead exclusive
can_be_read false =
    let a : Reached false 2 read_0 = further beginning (turn 0 cache_events.Load copy_states.IS_D cache_sends.GetS
    (omega arith) refl refl) in
    let b : Reached false 2 sent_0 =
    further a (serve (dir_events.GetS core_0) zeros shared_0 (omega arith) refl refl) in
    let c : Reached false 2 got_0 = further b (turn 0 (cache_events.Data 0 0) copy_states.S cache_sends.Nothing
    (omega arith) refl refl) in
    let d : Reached false 2 read_1 =
    further c (turn 1 cache_events.Load copy_states.IS_D cache_sends.GetS (omega arith) refl refl) in
    let e : Reached false 2 sent_1 =
    further d (serve (dir_events.GetS core_1) zeros shared_by_both (omega arith) refl refl) in
    let f : Reached false 2 got_1 = further e (turn 1 (cache_events.Data 0 0) copy_states.S cache_sends.Nothing
    (omega arith) refl refl) in
    (got_1, f, refl, refl)
can_be_read true =
    let a : Reached true 2 read_0 = further beginning (turn 0 cache_events.Load copy_states.IS_D cache_sends.GetS
    (omega arith) refl refl) in
    let b : Reached true 2 given_0 =
    further a (serve (dir_events.GetS core_0) zeros owned_0 (omega arith) refl refl) in
    let c : Reached true 2 only_0 = further b (turn 0 (cache_events.DataE true) copy_states.E cache_sends.Nothing
    (omega arith) refl refl) in
    let d : Reached true 2 asked_1 =
    further c (turn 1 cache_events.Load copy_states.IS_D cache_sends.GetS (omega arith) refl refl) in
    let e : Reached true 2 passed_1 =
    further d (serve (dir_events.GetS core_1) zeros forwarded_1 (omega arith) refl refl) in
    let f : Reached true 2 shared_1 =
    further e (turn 0 cache_events.FwdGetS copy_states.S cache_sends.DataToRequesterAndHome (omega arith) refl refl) in
    let g : Reached true 2 both =
    further f (turn 1 (cache_events.Data 0 0) copy_states.S cache_sends.Nothing (omega arith) refl refl) in
    (both, g, refl, refl)
