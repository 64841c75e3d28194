-- Every step keeps the blocks current, and they are in the beginning.
use Rattle.std.proofs.Common.{◌≡◌, ℕ, ◌<◌, ◌≤◌, Bool, true, false, refl, sym, subst, if◌then◌else◌, IsTrue}
use Rattle.std.proofs.Common.{true≢false}
use Rattle.address_map.specs.declared.block.Block.{Block}
use Rattle.cache_table.specs.CopyState.{is_writer}
use Rattle.cache_table.specs.Row.{row_of}
use Rattle.cache_table.specs.declared.row.CacheEvent.{CacheEvent}
use Rattle.cache_table.specs.declared.row.CacheEvent.TheVariants as cache_events
use Rattle.cache_table.specs.declared.row.CacheSends.{CacheSends}
use Rattle.cache_table.specs.declared.row.Row.TheVariants as rows
use Rattle.cache_table.specs.declared.state.CopyState.{CopyState}
use Rattle.protocol_coherence.proofs.Directory.{IsKept}
use Rattle.protocol_coherence.proofs.Steps.{first_coherent, step_kept}
use Rattle.protocol_coherence.proofs.ValueAck.{ack_current}
use Rattle.protocol_coherence.proofs.ValueServe.{serve_current}
use Rattle.protocol_coherence.proofs.ValueTurn.{turn_current, turned_blocks}
use Rattle.protocol_coherence.proofs.ValueWrite.{write_current}
use Rattle.protocol_coherence.specs.Coherent.{IsCoherent}
use Rattle.protocol_coherence.specs.Line.{Line, Roles}
use Rattle.protocol_coherence.specs.LineSteps.{Reached, Step, after, after_turn, beginning, count, first, further}
use Rattle.protocol_coherence.specs.LineSteps.{serve}
use Rattle.protocol_coherence.specs.LineSteps.{stands, turn}
use Rattle.protocol_coherence.specs.Values.{Blocks, HasBlocks, IsCurrent, ReachedWith, beginning_with, blocks_after}
use Rattle.protocol_coherence.specs.Values.{further_with, has_newest, newest_after, performs}

-- A turn that performs a write is a write by who may write.
performs_write : (event : CacheEvent) (next : CopyState) → performs event next ≡ true
    → (event ≡ cache_events.Write) × (is_writer next ≡ true)
performs_write cache_events.Write next e = (refl, e)
performs_write _ next e = absurd (true≢false (sym e))

turns_current : (cores : ℕ) (line : Line) (roles : Roles) (c : ℕ) (event : CacheEvent) (next : CopyState)
    (sent : CacheSends)
    (blocks : Blocks) (written newest : Block) → IsCoherent cores line roles → c < cores
    → IsTrue (stands (line.part c) event)
    → row_of (line.part c).look.state event ≡ rows.Go next sent → IsCurrent cores line blocks newest → (b : Bool)
    → performs event next ≡ b
    → IsCurrent cores (after_turn line c event next sent) (turned_blocks line c event sent b written blocks)
    (if b then written else newest)
turns_current cores line roles c event next sent blocks written newest coherent within here row current false e =
    turn_current cores line roles c event next sent blocks written newest coherent within here row current
turns_current cores line roles c event next sent blocks written newest coherent within here row current true e =
    let known = performs_write event next e in
    subst (λ ev. IsCurrent cores (after_turn line c ev next sent)
    (turned_blocks line c ev sent true written blocks) written) (sym known.0)
    (write_current cores line roles c next sent blocks written coherent within
    (subst (λ ev. row_of (line.part c).look.state ev ≡ rows.Go next sent) known.0 row) known.1)

-- Every step keeps the blocks current.
pub step_current : (exclusive : Bool) (cores : ℕ) (line : Line) (roles : Roles) (blocks : Blocks)
    (written newest : Block) → cores ≤ 64
    → IsCoherent cores line roles → IsCurrent cores line blocks newest → (step : Step exclusive cores line)
    → IsCurrent cores (after step) (blocks_after step written blocks) (newest_after step written newest)
step_current exclusive cores line roles blocks written newest most coherent current
    (turn c event next sent within here row) =
    turns_current cores line roles c event next sent blocks written newest coherent within here row current
    (performs event next) refl
step_current exclusive cores line roles blocks written newest most coherent current
    (count c from next sent within sender here row) =
    ack_current cores line roles c from next sent blocks newest coherent within sender here row current
step_current exclusive cores line roles blocks written newest most coherent current
    (serve event home step within here row) =
    serve_current exclusive cores line roles event home step blocks newest most coherent within here row current

first_current : (cores : ℕ) (blocks : Blocks) → IsCurrent cores first blocks blocks.home
unfolding has_newest
first_current cores blocks = record {
  copy = λ x below h. absurd (true≢false (sym h));
  arriving = λ x below h. absurd (true≢false h);
  put = λ x below owns h. absurd (true≢false (sym h));
  home = λ h. refl;
  mail = λ h. absurd (true≢false (sym h));
}

-- What is reached with its blocks is coherent, and its blocks are current.
pub record IsSound (cores : ℕ) (line : Line) (blocks : Blocks) (newest : Block) : Type 0 where
  pub kept : IsKept cores line
  pub current : IsCurrent cores line blocks newest

pub reached_sound : (exclusive : Bool) (cores : ℕ) (line : Line) (blocks : Blocks) (newest : Block) → 0 < cores
    → cores ≤ 64
    → ReachedWith exclusive cores line blocks newest → IsSound cores line blocks newest
reached_sound exclusive cores line blocks newest some most (beginning_with at_first) = record {
  kept = (record { keeper = 0; server = 0; asker = 0; by = λ x. x }, first_coherent cores some);
  current = first_current cores at_first;
}
reached_sound exclusive cores line blocks newest some most (further_with {line = before} {blocks = old} {newest = last}
    reached step written) =
    let sound = reached_sound exclusive cores before old last some most reached in
    record {
      kept = step_kept exclusive cores before sound.kept.0 most sound.kept.1 step;
      current = step_current exclusive cores before sound.kept.0 old written last most sound.kept.1 sound.current step;
    }

-- The blocks make no difference to what the line reaches: a run with blocks is a run.
pub without_blocks : (exclusive : Bool) (cores : ℕ) (line : Line) (blocks : Blocks) (newest : Block)
    → ReachedWith exclusive cores line blocks newest → Reached exclusive cores line
without_blocks exclusive cores line blocks newest (beginning_with at_first) = beginning
without_blocks exclusive cores line blocks newest
    (further_with {line = before} {blocks = old} {newest = last} reached step written) =
    further (without_blocks exclusive cores before old last reached) step

-- And each run has blocks, from any block in the home copy.
pub with_blocks : (exclusive : Bool) (cores : ℕ) (line : Line) → Block → Reached exclusive cores line
    → HasBlocks exclusive cores line
with_blocks exclusive cores line home beginning =
    let blocks : Blocks =
    record { copy = λ x. home; arriving = λ x. home; put = λ x. home; home = home; mail = home } in
    (blocks, home, beginning_with blocks)
with_blocks exclusive cores line home (further {line = before} reached step) =
    let old = with_blocks exclusive cores before home reached in
    (blocks_after step home old.0, newest_after step home old.1, further_with old.2 step home)
