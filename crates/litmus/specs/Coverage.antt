-- How often the scripts that are printed meet each cell of the tables.
use Rattle.std.specs.Prelude.{◌≡◌, ◌<◌, ℕ, zero, suc, List, Option, Some, None, [], map, if◌then◌else◌, nat_eq}
use Rattle.std.specs.Str.Lines.{lines}
use Rattle.litmus_rounds.specs.Run.{seed_of}
use Rattle.litmus_test.specs.declared.test.LitmusTest.{LitmusTest}
use Rattle.litmus_text.specs.Statement.{statements_from}
use Rattle.litmus_text.specs.declared.fault.TextFault.{TextFault}
use Rattle.litmus_walk.specs.Script.{PrintsWalk}
use Rattle.mshr_file.specs.Miss.{Bound}
use Rattle.script_coverage.specs.Counts.{listed, sums}
use Rattle.script_coverage.specs.Coverage.{IsCoverage, IsNotCovered}
use Rattle.script_coverage.specs.declared.cells.TheConstants.{CELLS}

-- These are the counts of a script. As a record it isn't unfolded, with all that a run is, where it is passed on.
pub record HasCounts (script : List ℕ) (counts : List (Option ℕ)) : Type 0 where
  pub is : IsCoverage (statements_from 0 (lines script)) counts

-- .. or why there are none
pub record HasNoCounts (script : List ℕ) (fault : TextFault) : Type 0 where
  pub is : IsNotCovered (statements_from 0 (lines script)) fault

-- what is printed is a script, and these are its counts
pub record AreCountsOf (Prints : Option (List ℕ) → Option (List ℕ) → Type 0) (counts : List (Option ℕ)) : Type 0 where
  pub script : List ℕ
  pub printed : Prints (Some []) (Some script)
  pub counted : HasCounts script counts

-- .. or why there are none
pub record IsNotCounted (Prints : Option (List ℕ) → Option (List ℕ) → Type 0) (fault : TextFault) : Type 0 where
  pub script : List ℕ
  pub printed : Prints (Some []) (Some script)
  pub stopped : HasNoCounts script fault

-- ---- rounds

-- the status of rounds after one more ended with this one: 0 if each did
abbrev pub status_with : ℕ → ℕ → ℕ
status_with before ended = if nat_eq ended 0 then before else ended

-- The counts of `count` rounds, the first with the seed, and each with the next, are the sums of those of each.
abbrev pub AreCountsOfRounds : LitmusTest → Bound → (seed most count status : ℕ) → List (Option ℕ) → Type 0
AreCountsOfRounds test bound seed most zero status counts = (status ≡ 0) × (counts ≡ map (listed None) CELLS)
AreCountsOfRounds test bound seed most (suc round) status counts =
    (before : ℕ) × (ended : ℕ) × (old : List (Option ℕ)) × (more : List (Option ℕ))
    × AreCountsOfRounds test bound seed most round before old
    × AreCountsOf (PrintsWalk test bound (seed_of seed round) most ended) more
    × (status ≡ status_with before ended) × (counts ≡ sums old more)

-- .. or one of `count` rounds can't be counted
pub record IsRoundNotCounted (test : LitmusTest) (bound : Bound) (seed most count : ℕ) (fault : TextFault) : Type 0
  where
    pub round : ℕ
    pub one_of : round < count
    pub status : ℕ
    pub stopped : IsNotCounted (PrintsWalk test bound (seed_of seed round) most status) fault
