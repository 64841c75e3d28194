-- The small machine that a slice is to an observer of only requests and replies: a log, the requests that wait to be
-- performed, and the replies that wait to be handed out. It has no caches, messages or registers.
use Rattle.std.specs.Prelude.{◌≡◌, ◌≢◌, ◌⊎◌, ℕ, ◌<◌, ◌≤◌, ◌/◌, List, [], ◌∷◌, ◌++◌, length}
use Rattle.address_map.specs.declared.address.CoreId.{CoreId}
use Rattle.address_map.specs.declared.address.WordAddr.{WordAddr}
use Rattle.address_map.specs.declared.request.Op.{Op}
use Rattle.slice_log.specs.Log.{value}
use Rattle.slice_log.specs.Op.{reply_of}
use Rattle.slice_log.specs.declared.entry.Entry.{Entry}

-- a request that was accepted
pub record Asked : Type 0 where
  pub op : Op
  pub word : WordAddr
  pub seq : ℕ
  pub since : ℕ
  pub core : CoreId
  pub tag : ℕ

pub record SmallMachine : Type 1 where
  -- what was performed, in order
  pub log : List Entry
  -- whether a request waits to be performed
  pub waiting : Asked → Type 0
  -- whether the entry of this number has a reply that waits to be handed out
  pub replies : ℕ → Type 0

-- the machine in which nothing was asked for yet
abbrev pub new_small_machine : SmallMachine
new_small_machine = record { log = []; waiting = λ r. ⊥; replies = λ number. ⊥ }

-- the entry of a request that is performed after this log: its reply is what the value of its word gives
abbrev pub entry_for : (ℕ → ℕ) → List Entry → Asked → Entry
entry_for initial log r = record {
  op = r.op;
  word = r.word;
  seq = r.seq;
  reply = reply_of r.op (value (initial r.word.0) log r.word.0);
  since = r.since;
  core = r.core;
  tag = r.tag;
}

-- Each request of the same core that waits was accepted earlier.
abbrev pub IsNewest : SmallMachine → Asked → Type 0
IsNewest m r = (other : Asked) → m.waiting other → other.core.0 ≡ r.core.0 → other.seq < r.seq

-- No request of the same core on the same line that waits is older.
abbrev pub IsOldest : SmallMachine → Asked → Type 0
IsOldest m r = (other : Asked) → m.waiting other → other.core.0 ≡ r.core.0 → other.word.0 / 8 ≡ r.word.0 / 8
    → r.seq ≤ other.seq

-- ---- steps

-- a request is accepted, a request is performed, or the reply of the entry of this number is handed out
pub data Step : Type 0 where
  accept : Asked → Step
  perform : Asked → Step
  hand : ℕ → Step

-- The machine can make the step. A request that is accepted records how long the log is, and is numbered above those
-- of its core that wait, so it doesn't wait yet. One that is performed waits, and is the oldest of its core on its
-- line. A reply that is handed out waits.
abbrev pub Can : SmallMachine → Step → Type 0
Can m (accept r) = (r.since ≡ length m.log) × IsNewest m r
Can m (perform r) = m.waiting r × IsOldest m r
Can m (hand number) = m.replies number

-- The machine after the step, from a memory with these initial values.
abbrev pub after : (ℕ → ℕ) → SmallMachine → Step → SmallMachine
after initial m (accept r) = record {
  log = m.log;
  waiting = λ other. m.waiting other ⊎ (other ≡ r);
  replies = m.replies;
}
after initial m (perform r) = record {
  log = m.log ++ entry_for initial m.log r ∷ [];
  waiting = λ other. m.waiting other × (other ≢ r);
  replies = λ number. m.replies number ⊎ (number ≡ length m.log);
}
after initial m (hand given) = record {
  log = m.log;
  waiting = m.waiting;
  replies = λ number. m.replies number × (number ≢ given);
}

-- ---- runs

-- The one has the same log as the other, and the same requests and replies wait.
pub record IsSame (one other : SmallMachine) : Type 0 where
  pub log : one.log ≡ other.log
  pub waiting : (r : Asked) → (one.waiting r → other.waiting r) × (other.waiting r → one.waiting r)
  pub replies : (number : ℕ)
      → (one.replies number → other.replies number) × (other.replies number → one.replies number)

-- The machine can make these steps, one after another, and is then the other.
abbrev pub Run : (ℕ → ℕ) → List Step → SmallMachine → SmallMachine → Type 0
Run initial [] m now = IsSame m now
Run initial (step ∷ steps) m now = Can m step × Run initial steps (after initial m step) now
