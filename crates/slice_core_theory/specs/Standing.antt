-- One core's requests: each that was accepted is in exactly one place. It is a target of a miss register, or an
-- entry of the log: a reply as long as a tag names its number, and handed out otherwise.
use Rattle.std.specs.Prelude.{◌≡◌, ℕ, ◌+◌, ◌/◌, ◌<◌, ◌==◌, ◌&&◌, nat_lt, nat_le, Bool, true, false, not, if◌then◌else◌}
use Rattle.std.specs.Prelude.{List, length, count_by, slice_get, Some, All}
use Rattle.address_map.specs.Locator.{Lines, line_at}
use Rattle.address_map.specs.declared.address.Local.{Local}
use Rattle.mshr_file.specs.Miss.{count_of, has_tag, targets_of, IsInOrder, IsMissFile}
use Rattle.mshr_file.specs.declared.registers.Register.{Register}
use Rattle.slice_core_cache.specs.Tags.{tag_in}
use Rattle.slice_core_cache.specs.declared.tags.TagState.{TagState}
use Rattle.slice_core_cache.specs.declared.tags.TagState.TheVariants as tag_states
use Rattle.slice_log.specs.declared.entry.Entry.{Entry}
use Rattle.target_list.specs.declared.target.Target.{Target}

-- ---- where a request is

-- the entry is one of the core's
abbrev pub is_of : ℕ → Entry → Bool
is_of core entry = entry.core.0 == core

-- the entry is the core's request of this number
abbrev pub is_request : ℕ → ℕ → Entry → Bool
is_request core seq entry = is_of core entry && (entry.seq == seq)

-- the target is the core's request of this number
abbrev pub has_seq : ℕ → Target → Bool
has_seq seq target = target.seq == seq

-- in how many places the core's request of this number is: as a target, or as an entry of the log
abbrev pub standings : List Register → List Entry → ℕ → ℕ → ℕ
standings misses log core seq = count_of (has_seq seq) misses + count_by (is_request core seq) log

-- how many targets there are
abbrev pub target_count : List Register → ℕ
target_count misses = count_of (λ target. true) misses

-- The core has nothing in the log: it is not there, or has asked for nothing yet.
abbrev pub HasNoEntry : ℕ → List Entry → Type 0
HasNoEntry core log = count_by (is_of core) log ≡ 0

-- The requests that were accepted are those of the numbers below this one, each in one place, and no other is
-- anywhere.
pub record StandsOnce (log : List Entry) (core : ℕ) (misses : List Register) (accepted : ℕ) : Type 0 where
  pub once : (seq : ℕ) → standings misses log core seq ≡ (if nat_lt seq accepted then 1 else 0)
  pub counted : accepted ≡ target_count misses + count_by (is_of core) log

-- ---- what waits

-- the target names a word of its line and a tag of its core
abbrev pub is_performable : Target → Bool
is_performable target = nat_lt target.offset.0 8 && nat_lt target.tag 64

-- the target was asked for when the log had no more than `now` entries
abbrev pub is_asked_by : ℕ → Target → Bool
is_asked_by now target = nat_le target.since now

-- No target fails the test.
abbrev pub NoneFails : (Target → Bool) → List Register → Type 0
NoneFails test misses = count_of (λ target. not (test target)) misses ≡ 0

-- What waits can be performed, and was asked for in the past.
pub record CanWait (log : List Entry) (misses : List Register) : Type 0 where
  pub file : IsMissFile misses
  pub performable : NoneFails is_performable misses
  pub asked : NoneFails (is_asked_by (length log)) misses

-- ---- tags

-- a request goes by the tag that isn't performed yet
abbrev pub is_open : TagState → Bool
is_open tag_states.Open = true
is_open _ = false

-- An open tag names one target, and no other tag names any. A performed tag names an entry that the core asked for
-- by it.
pub record HasTags (log : List Entry) (core : ℕ) (misses : List Register) (states : List TagState) : Type 0 where
  pub sized : length states ≡ 64
  pub opened : (tag : ℕ) → count_of (has_tag tag) misses ≡ (if is_open (tag_in states tag) then 1 else 0)
  pub replies : (tag number : ℕ) → tag_in states tag ≡ tag_states.Performed number
      → (e : Entry) × (slice_get log number ≡ Some e) × (e.core.0 ≡ core) × (e.tag ≡ tag)

-- ---- order

-- If the entry is the core's, it was asked for before each target that waits for its line.
abbrev pub IsAhead : Lines → ℕ → List Register → Entry → Type 0
IsAhead lines core misses entry = (local : Local) → entry.core.0 ≡ core → entry.word.0 / 8 ≡ (line_at lines local).0
    → All (λ target. entry.seq < target.seq) (targets_of misses local.0)

-- On each line the requests are performed in the order in which the core asked for them.
pub record StandsInOrder (lines : Lines) (log : List Entry) (core : ℕ) (misses : List Register) : Type 0 where
  pub targets : IsInOrder misses
  pub entries : All (IsAhead lines core misses) log

-- ---- all together

-- All that holds of one core's requests, where its tags name these and `accepted` were accepted.
pub record IsAccount (lines : Lines) (log : List Entry) (core : ℕ) (misses : List Register) (states : List TagState)
    (accepted : ℕ) : Type 0 where
  pub standing : StandsOnce log core misses accepted
  pub waits : CanWait log misses
  pub tags : HasTags log core misses states
  pub order : StandsInOrder lines log core misses
