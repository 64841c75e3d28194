-- How the channels of a slice's lines are stored: a head for each line, and runs of cores' channels.
use Rattle.std.specs.Prelude.{◌≡◌, ℕ, ◌+◌, ◌*◌, ◌<◌, ◌≤◌, ◌++◌, Bool, true, false, nat_lt, if◌then◌else◌, List}
use Rattle.std.specs.Prelude.{length, map, take, drop, replicate, slice_index_or, count_by, None}
use Rattle.slice_queues.specs.declared.lines.LineHead.{LineHead}
use Rattle.slice_queues.specs.Line.{CoreChannels, LineChannels, no_messages}
use Rattle.slice_queues.specs.Mail.{no_marks, IsLine}

-- the head of a line to which nothing was ever sent
abbrev pub blank_head : LineHead
blank_head = record { mail = no_marks; first = 0; waits = false; home = None }

-- the head of the line at a place
abbrev pub head_at : List LineHead → ℕ → LineHead
head_at heads local = slice_index_or heads local blank_head

-- the line has a run of its own
abbrev pub has_run : LineHead → Bool
has_run head = nat_lt 0 head.first

-- the line's run, of `width` cores' channels: the blank one in front where it has none of its own
abbrev pub run_under : ℕ → List CoreChannels → LineHead → List CoreChannels
run_under width cores head = take width (drop head.first cores)

-- the line's channels
abbrev pub line_under : ℕ → List CoreChannels → LineHead → LineChannels
line_under width cores head = record { cores = run_under width cores head; home = head.home }

-- the channels of each line
abbrev pub lines_under : ℕ → List CoreChannels → List LineHead → List LineChannels
lines_under width cores = map (line_under width cores)

-- where a line's own run begins: after the others, where it gets it only now
abbrev pub opened_first : LineHead → List CoreChannels → ℕ
opened_first head cores = if has_run head then head.first else length cores

-- the runs once the line has its own
abbrev pub opened_cores : ℕ → LineHead → List CoreChannels → List CoreChannels
opened_cores width head cores = if has_run head then cores else cores ++ replicate width no_messages

-- what holds of all lines: the first run is blank, each line that has a run of its own shares it with no other, and
-- there is room for a run of each line
pub record IsRuns (heads : List LineHead) (cores : List CoreChannels) (width capacity : ℕ) : Type 0 where
  pub few : width ≤ 64
  pub blank : take width cores ≡ replicate width no_messages
  pub runs : length cores ≡ (1 + count_by has_run heads) * width
  pub room : (1 + length heads) * width ≤ capacity
  pub within : (local : ℕ) → (head_at heads local).first + width ≤ length cores
  pub own : (local other core place : ℕ) → has_run (head_at heads local) ≡ true → core < width → place < width →
      (head_at heads local).first + core ≡ (head_at heads other).first + place → local ≡ other
  pub lines : (local : ℕ) → IsLine (run_under width cores (head_at heads local)) (head_at heads local).mail
