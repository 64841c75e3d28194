-- How many lines have a message, and what the head of each says of that.
use Rattle.std.specs.Prelude.{◌≡◌, ℕ, ◌||◌, Bool, if◌then◌else◌, nat_lt, is_some, List, slice_index_or, count_by}
use Rattle.slice_queues.specs.declared.lines.LineHead.{LineHead}
use Rattle.slice_queues.specs.Line.{CoreChannels, LineChannels, has_mail, empty_line, IsWithinCores}
use Rattle.slice_queues.specs.Mail.{all_marked, IsMarked}
use Rattle.slice_queues.specs.Runs.{head_at}

-- 1 where the test holds, and else 0
abbrev pub one_where : Bool → ℕ
one_where holds = if holds then 1 else 0

-- a core is marked, or a block is there for the directory
abbrev pub shows_mail : LineHead → Bool
shows_mail head = nat_lt 0 (all_marked head.mail) || is_some head.home

-- what holds of a line's head apart from its cores' channels: their bounds, the marks, and the flag
pub record IsHead (cores : List CoreChannels) (head : LineHead) : Type 0 where
  pub within : IsWithinCores cores
  pub marked : IsMarked cores head.mail
  pub flag : head.waits ≡ has_mail (record { cores = cores; home = head.home })

-- each head's flag says whether its line has a message, and `waiting` lines have one
pub record IsMailCounted (heads : List LineHead) (lines : List LineChannels) (waiting : ℕ) : Type 0 where
  pub flags : (local : ℕ) → (head_at heads local).waits ≡ has_mail (slice_index_or lines local (empty_line 0))
  pub counted : waiting ≡ count_by has_mail lines
