-- What a judge keeps of the entries that it took.
use Rattle.std.specs.Prelude.{◌≡◌, ℕ, ◌/◌, ◌<◌, ◌≤◌, List, slice_get, slice_index, Option, Some, None}
use Rattle.slice_log.specs.Log.{value, IsLegal, IsOrdered}
use Rattle.slice_log.specs.declared.entry.Entry.{Entry}
use Rattle.trace_check.specs.declared.judge.Judge.{Judge}
use Rattle.trace_check.specs.Latest.{latest_of}
use Rattle.trace_check.specs.declared.latest.LatestSeqs.{LatestSeqs}
use Rattle.trace_check.specs.declared.judge.TheConstants.{MOST_CORES, MOST_WORDS}

-- an entry that a trace can name
pub record IsNameable (e : Entry) : Type 0 where
  pub core : e.core.0 < MOST_CORES
  pub word : e.word.0 < MOST_WORDS

-- what is kept is at least the entry's seq
abbrev pub IsUpTo : Option ℕ → ℕ → Type 0
IsUpTo None seq = ⊥
IsUpTo (Some greatest) seq = seq ≤ greatest

-- an entry of the log with this seq, of this line and core
pub record Reaches (log : List Entry) (line core greatest : ℕ) : Type 0 where
  pub at : ℕ
  pub entry : Entry
  pub stands : slice_get log at ≡ Some entry
  pub of_line : entry.word.0 / 8 ≡ line
  pub of_core : entry.core.0 ≡ core
  pub seq : entry.seq ≡ greatest

-- the greatest seq of each core and line
pub record AreGreatest (latest : LatestSeqs) (log : List Entry) : Type 0 where
  pub above : (k : ℕ) (d : Entry) → slice_get log k ≡ Some d → IsUpTo (latest_of latest (d.word.0 / 8) d.core.0) d.seq
  pub reached : (line core seq : ℕ) → latest_of latest line core ≡ Some seq → Reaches log line core seq

-- the log is legal and ordered, and the judge has the value of each word and the greatest seqs
pub record Knows (judge : Judge) (initial : ℕ → ℕ) (log : List Entry) : Type 0 where
  pub values : (w : ℕ) → slice_index judge.values.items w ≡ value (initial w) log w
  pub greatest : AreGreatest judge.latest log
  pub legal : IsLegal initial log
  pub ordered : IsOrdered log
