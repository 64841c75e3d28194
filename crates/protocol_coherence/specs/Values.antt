-- The blocks of a line: where they are, how each step moves them, and which of them are the newest.
use Rattle.std.specs.Prelude.{◌≡◌, ◌<◌, ℕ, ◌==◌, ◌&&◌, ◌||◌, Bool, false, not, if◌then◌else◌, IsTrue, IsFalse}
use Rattle.address_map.specs.declared.block.Block.{Block}
use Rattle.cache_table.specs.CopyState.{is_readable, is_writer}
use Rattle.cache_table.specs.Law.{brings_data, sends_data, sends_home, sends_put_m}
use Rattle.cache_table.specs.declared.row.CacheEvent.{CacheEvent}
use Rattle.cache_table.specs.declared.row.CacheEvent.TheVariants as cache_events
use Rattle.cache_table.specs.declared.state.CopyState.{CopyState}
use Rattle.directory_table.specs.Law as DirectoryLaw
use Rattle.directory_table.specs.Law.{is_idle, is_named, is_shared, requester}
use Rattle.directory_table.specs.declared.state.DirState.{DirState}
use Rattle.directory_table.specs.declared.row.DirEvent.{DirEvent}
use Rattle.directory_table.specs.declared.row.DirEvent.TheVariants as dir_events
use Rattle.protocol_coherence.specs.Fit.{is_counting, is_no_data, is_put_ack_first, is_put_m, is_written_back}
use Rattle.protocol_coherence.specs.Line.{Line, Look}
use Rattle.protocol_coherence.specs.LineSteps.{Step, after, count, first, serve, turn}

-- The block of each core's copy, of the data on their way to it and of its PutM; the home copy, and the block on its
-- way home.
pub record Blocks : Type 0 where
  pub copy : ℕ → Block
  pub arriving : ℕ → Block
  pub put : ℕ → Block
  pub home : Block
  pub mail : Block

-- The row performs a write: the access is one, and the copy may be written.
abbrev pub performs : CacheEvent → CopyState → Bool
performs cache_events.Write next = is_writer next
performs _ next = false

-- The block that the directory's row puts into the home copy: the owner's, or the one that comes home.
abbrev pub home_after_row : DirEvent → Blocks → Block
home_after_row (dir_events.PutM core) blocks = blocks.put core.0
home_after_row dir_events.DataHome blocks = blocks.mail
home_after_row _ blocks = blocks.home

-- The copy's block after the row: what is written, the data that came, or the block as it was.
abbrev pub block_after_row : CacheEvent → CopyState → ℕ → Block → Blocks → Block
block_after_row event next core written blocks =
    if performs event next then written
    else if brings_data event then blocks.arriving core
    else blocks.copy core

-- The blocks after a step, where a write that it performs leaves the written block.
abbrev pub blocks_after : {exclusive : Bool} {cores : ℕ} {line : Line} → Step exclusive cores line → Block → Blocks
    → Blocks
blocks_after {line = line} (turn core event next sent within here row) written blocks = record {
  copy = λ other. if other == core then block_after_row event next core written blocks else blocks.copy other;
  arriving = λ other.
      if sends_data sent && other == (line.part core).names then blocks.copy core else blocks.arriving other;
  put = λ other. if sends_put_m sent && other == core then blocks.copy core else blocks.put other;
  home = blocks.home;
  mail = if sends_home sent then blocks.copy core else blocks.mail;
}
blocks_after (count core from next sent within sender here row) written blocks = blocks
blocks_after (serve event home step within here row) written blocks = record blocks {
  arriving = λ other.
      if DirectoryLaw.sends_data step.sends && is_named (requester event) other then blocks.home
      else blocks.arriving other;
  home = if step.writes_home then home_after_row event blocks else blocks.home;
}

-- The newest block after a step: what the last write left.
abbrev pub newest_after : {exclusive : Bool} {cores : ℕ} {line : Line} → Step exclusive cores line → Block → Block
    → Block
newest_after (turn core event next sent within here row) written newest =
    if performs event next then written else newest
newest_after (count core from next sent within sender here row) written newest = newest
newest_after (serve event home step within here row) written newest = newest

-- What the line, its blocks and the newest block can come to, by any steps and any written blocks.
pub data ReachedWith (exclusive : Bool) (cores : ℕ) : Line → Blocks → Block → Type 0 where
  beginning_with : (blocks : Blocks) → ReachedWith exclusive cores first blocks blocks.home
  further_with : {line : Line} {blocks : Blocks} {newest : Block} → ReachedWith exclusive cores line blocks newest
      → (step : Step exclusive cores line) → (written : Block)
      → ReachedWith exclusive cores (after step) (blocks_after step written blocks) (newest_after step written newest)

-- The run with some blocks.
abbrev pub HasBlocks : Bool → ℕ → Line → Type 0
HasBlocks exclusive cores line = (blocks : Blocks) × (newest : Block) × ReachedWith exclusive cores line blocks newest

-- ---- which blocks are the newest

-- The core has the newest block: it may read it, or has it as the only copy and hasn't given it on.
unfoldable pub has_newest : Look → Bool
has_newest look = is_readable look.state || is_counting look.state
    || (is_written_back look.state && not (is_put_ack_first look))

-- The home copy is the newest block.
abbrev pub is_at_home : DirState → Bool
is_at_home directory = is_idle directory || is_shared directory

-- Each block that anybody may read, or that will be read as it is, is the newest.
pub record IsCurrent (cores : ℕ) (line : Line) (blocks : Blocks) (newest : Block) : Type 0 where
  pub copy : (c : ℕ) → c < cores → IsTrue (has_newest (line.part c).look) → blocks.copy c ≡ newest
  pub arriving : (c : ℕ) → c < cores → IsFalse (is_no_data (line.part c).look.incoming) → blocks.arriving c ≡ newest
  pub put : (c : ℕ) → c < cores → IsTrue (is_named line.owner c) → IsTrue (is_put_m (line.part c).look.request)
      → blocks.put c ≡ newest
  pub home : IsTrue (is_at_home line.directory) → blocks.home ≡ newest
  pub mail : IsTrue line.home → blocks.mail ≡ newest
