-- What a write-back buffer holds: the lines that a cache has evicted and that wait for the directory's acknowledgement.
-- Its write-backs are kept in the order in which they came, and read as a map from a line to its state and block.
use Rattle.std.specs.Prelude.{◌≡◌, ◌≢◌, ℕ, ◌≤◌, Bool, ◌==◌, not, if◌then◌else◌, List, [], ◌∷◌, ◌++◌, length, map}
use Rattle.std.specs.Prelude.{filter, AllPairs, Option, Some, None}
use Rattle.cache_table.specs.declared.state.CopyState.{CopyState}
use Rattle.writeback_buffer.specs.declared.buffer.TheConstants.{MOST_WRITE_BACKS}
use Rattle.writeback_buffer.specs.declared.pending.PendingWriteBack.{PendingWriteBack}
use Rattle.writeback_buffer.specs.declared.pending.Leaving.{Leaving}

-- the write-backs in the order in which they came, and how many there is room for
pub record Buffer : Type 0 where
  pub write_backs : List PendingWriteBack
  pub capacity : ℕ

-- the write-back is this line's
abbrev pub is_of : ℕ → PendingWriteBack → Bool
is_of line write_back = write_back.line.0 == line

-- what is held of a line, if it is held
abbrev pub held_at : List PendingWriteBack → ℕ → Option Leaving
held_at [] line = None
held_at (write_back ∷ rest) line = if is_of line write_back then Some write_back.leaving else held_at rest line

-- no line occurs twice: a line being written back can't be evicted again before it is acknowledged
abbrev pub HasEachLineOnce : List PendingWriteBack → Type 0
HasEachLineOnce write_backs = AllPairs (λ earlier later. earlier.line.0 ≢ later.line.0) write_backs

-- what holds of every buffer: no line occurs twice, and it has no more write-backs than it was configured with
pub record IsBuffer (buffer : Buffer) : Type 0 where
  pub once : HasEachLineOnce buffer.write_backs
  pub fits : length buffer.write_backs ≤ buffer.capacity
  pub small : buffer.capacity ≤ MOST_WRITE_BACKS

-- a buffer in which no line waits
abbrev pub empty_buffer : ℕ → Buffer
empty_buffer capacity = record { write_backs = []; capacity = capacity }

-- the buffer with this line after the others
abbrev pub with_line : Buffer → ℕ → Leaving → Buffer
with_line buffer line leaving =
    record buffer { write_backs = buffer.write_backs ++ record { leaving = leaving; line = record { 0 = line } } ∷ [] }

-- the same block, in this state
abbrev pub in_state : CopyState → Leaving → Leaving
in_state state leaving = record leaving { state = state }

-- the write-back, moved to the state if it is this line's
abbrev pub advanced_write_back : ℕ → CopyState → PendingWriteBack → PendingWriteBack
advanced_write_back line state write_back =
    if is_of line write_back then record write_back { leaving = in_state state write_back.leaving } else write_back

-- the buffer with the line moved to this state
abbrev pub with_state : Buffer → ℕ → CopyState → Buffer
with_state buffer line state = record buffer { write_backs = map (advanced_write_back line state) buffer.write_backs }

-- the buffer with the write-backs of other lines alone
abbrev pub without_line : Buffer → ℕ → Buffer
without_line buffer line =
    record buffer { write_backs = filter (λ write_back. not (is_of line write_back)) buffer.write_backs }

-- of this line the new buffer holds what is given, of every other what the old one held, and it has the same capacity
pub record ChangesOnly (old new : Buffer) (line : ℕ) (held : Option Leaving) : Type 0 where
  pub here : held_at new.write_backs line ≡ held
  pub others : (other : ℕ) → other ≢ line → held_at new.write_backs other ≡ held_at old.write_backs other
  pub same_capacity : new.capacity ≡ old.capacity
