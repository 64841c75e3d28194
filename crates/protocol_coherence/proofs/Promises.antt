-- What is promised of every line that the machine reaches.
use Rattle.std.proofs.Common.{ℕ, ◌<◌, ◌≤◌, Bool}
use Rattle.protocol_coherence.proofs.HasRows.{has_rows}
use Rattle.address_map.specs.declared.block.Block.{Block}
use Rattle.protocol_coherence.proofs.HasRoom.{has_room}
use Rattle.protocol_coherence.proofs.OneWriter.{one_writer}
use Rattle.protocol_coherence.proofs.Settled.{nothing_early, settled}
use Rattle.protocol_coherence.proofs.Steps.{reached_coherent}
use Rattle.protocol_coherence.proofs.ValueSteps.{reached_sound}
use Rattle.protocol_coherence.specs.Line.{Line}
use Rattle.protocol_coherence.specs.LineSteps.{Reached}
use Rattle.protocol_coherence.specs.Promise.{HasOneWriter, HasRoom, HasRows, IsSettled, NothingIsEarly}
use Rattle.protocol_coherence.specs.Values.{Blocks, IsCurrent, ReachedWith}

pub reached_one_writer : (exclusive : Bool) (cores : ℕ) (line : Line) → 0 < cores → cores ≤ 64
    → Reached exclusive cores line → HasOneWriter cores line
reached_one_writer exclusive cores line some most reached =
    let kept = reached_coherent exclusive cores line some most reached in
    one_writer cores line kept.0 kept.1

pub reached_has_rows : (exclusive : Bool) (cores : ℕ) (line : Line) → 0 < cores → cores ≤ 64
    → Reached exclusive cores line → HasRows exclusive cores line
reached_has_rows exclusive cores line some most reached =
    let kept = reached_coherent exclusive cores line some most reached in
    has_rows exclusive cores line kept.0 some kept.1

pub reached_has_room : (exclusive : Bool) (cores : ℕ) (line : Line) → 0 < cores → cores ≤ 64
    → Reached exclusive cores line
    → HasRoom exclusive cores line
reached_has_room exclusive cores line some most reached =
    let kept = reached_coherent exclusive cores line some most reached in
    has_room exclusive cores line kept.0 most kept.1

pub reached_nothing_early : (exclusive : Bool) (cores : ℕ) (line : Line) → 0 < cores → cores ≤ 64
    → Reached exclusive cores line
    → NothingIsEarly cores line
reached_nothing_early exclusive cores line some most reached =
    let kept = reached_coherent exclusive cores line some most reached in
    nothing_early cores line kept.0 kept.1

pub reached_settled : (exclusive : Bool) (cores : ℕ) (line : Line) → 0 < cores → cores ≤ 64
    → Reached exclusive cores line
    → IsSettled cores line
reached_settled exclusive cores line some most reached =
    let kept = reached_coherent exclusive cores line some most reached in
    settled cores line kept.0 kept.1

pub reached_current : (exclusive : Bool) (cores : ℕ) (line : Line) (blocks : Blocks) (newest : Block) → 0 < cores
    → cores ≤ 64
    → ReachedWith exclusive cores line blocks newest → IsCurrent cores line blocks newest
reached_current exclusive cores line blocks newest some most reached =
    (reached_sound exclusive cores line blocks newest some most reached).current
