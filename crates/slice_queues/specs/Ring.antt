-- The ring of the lines of a slice that may have messages.
use Rattle.std.specs.Prelude.{◌≡◌, ℕ, ◌<◌, ◌++◌, Bool, true, false, if◌then◌else◌, List, [], ◌∷◌, length, eqb}
use Rattle.std.specs.Prelude.{slice_index_or}
use Rattle.std.specs.List.{list_any, IsDistinct}
use Rattle.address_map.specs.Locator.{Lines, IsOfMachine}
use Rattle.slice_queues.specs.Line.{LineChannels, has_mail, empty_line}
use Rattle.slice_queues.specs.Slice.{SliceChannels, at_local}

-- the line is in the list
abbrev pub is_listed : List ℕ → ℕ → Bool
is_listed lines local = list_any (eqb local) lines

-- the list with the line at its end, unless it is there
abbrev pub with_listed : List ℕ → ℕ → List ℕ
with_listed lines local = if is_listed lines local then lines else lines ++ local ∷ []

-- places of a slice of `lines` lines, each at most once
pub record IsOrder (order : List ℕ) (lines : ℕ) : Type 0 where
  pub once : IsDistinct eqb order
  pub there : (local : ℕ) → is_listed order local ≡ true → local < lines

-- the lines of a round, the first in front, and how many lines there are
pub record LineOrder : Type 0 where
  pub order : List ℕ
  pub lines : ℕ

-- the flags say which lines are in the round, none twice, and there is room for every line
pub record IsRound (order : List ℕ) (listed : List Bool) (capacity : ℕ) : Type 0 where
  pub once : IsDistinct eqb order
  pub flags : (local : ℕ) → slice_index_or listed local false ≡ is_listed order local
  pub room : capacity ≡ length listed

-- a slice's channels, and its ring of lines: those with a message, and some whose messages were all taken
pub record QueuesView : Type 0 where
  pub channels : SliceChannels
  pub ring : List ℕ

-- a message waits in some channel of the line at this place
abbrev pub has_mail_at : SliceChannels → ℕ → Bool
has_mail_at queues local = has_mail (at_local queues local)

-- each line with a message is in the ring, each line at most once, and no line that isn't there
pub record IsRing (queues : QueuesView) : Type 0 where
  pub mail : (local : ℕ) → has_mail_at queues.channels local ≡ true → is_listed queues.ring local ≡ true
  pub order : IsOrder queues.ring (length queues.channels.lines)

-- what holds of every slice: its lines are those of a slice of the machine, and one that isn't in the ring has
-- no message
pub record IsQueues (lines : List LineChannels) (ring : LineOrder) (own : Lines) : Type 0 where
  pub machine : IsOfMachine own
  pub lines_here : own.lines ≡ length lines
  pub ring_for_all : ring.lines ≡ length lines
  pub quiet : (local : ℕ) → is_listed ring.order local ≡ false →
      has_mail (slice_index_or lines local (empty_line 0)) ≡ false
