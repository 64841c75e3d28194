-- The results of a litmus test's rounds.
use Rattle.std.specs.Prelude.{◌≡◌, ℕ, ◌<◌, All, List, Option, length, map}
use Rattle.std.specs.List.{range_with_len}
use Rattle.address_map.specs.declared.config.Config.{Config}
use Rattle.core_thread_system.specs.Core.{CoreView}
use Rattle.drain.specs.Audited.{IsAudited}
use Rattle.drain.specs.declared.report.CounterValue.{CounterValue}
use Rattle.litmus_test.specs.NamedRequest.{named_request_of}
use Rattle.litmus_test.specs.Table.{IsTableOf, TableView}
use Rattle.litmus_test.specs.declared.outcomes.named_request.NamedRequest.{NamedRequest}
use Rattle.litmus_test.specs.declared.test.LitmusTest.{LitmusTest}
use Rattle.litmus_test.specs.declared.test.Thread.{Thread}
use Rattle.litmus_threads.specs.Found.{IsOutcomeIn}
use Rattle.litmus_threads.specs.Made.{AreOwners, HaveMadeAll}
use Rattle.litmus_threads.specs.declared.rounds.Run.{Run}
use Rattle.litmus_threads.specs.declared.rounds.Run.TheVariants as runs
use Rattle.receipt_ledger.specs.declared.receipt.Receipt.{Receipt}

-- the request of each name of a test
abbrev pub named_requests_of : LitmusTest → List (Option NamedRequest)
named_requests_of test = map (named_request_of test) (range_with_len 0 (length test.names.items))

-- The cores of a machine made the requests of the threads and no others, and the machine was audited with them.
pub record IsRoundOf (c : Config) (threads : List Thread) (receipts : List Receipt) (counters : List CounterValue)
    : Type 0 where
  pub cores : List CoreView
  pub made : HaveMadeAll c threads cores
  pub owners : AreOwners c cores
  pub audited : IsAudited c cores receipts counters

-- The cores of a machine made the requests of the threads and no others, the machine was audited with them, and this is
-- what the audit found: the outcome is that of a legal log of each slice.
pub record IsFoundOn (c : Config) (threads : List Thread) (named_requests : List (Option NamedRequest))
    (values : List ℕ) : Type 0
  where
    pub cores : List CoreView
    pub receipts : List Receipt
    pub counters : List CounterValue
    pub made : HaveMadeAll c threads cores
    pub audited : IsAudited c cores receipts counters
    pub found : IsOutcomeIn receipts counters named_requests values

-- an outcome of a test
abbrev pub IsOutcomeOf : LitmusTest → List ℕ → Type 0
IsOutcomeOf test values = IsFoundOn test.config test.threads.items (named_requests_of test) values

-- The table is of `rounds` rounds, and each had an outcome of the test.
pub record IsTableFor (test : LitmusTest) (rounds : ℕ) (table : TableView) : Type 0 where
  pub outcomes : List (List ℕ)
  pub table_is : IsTableOf outcomes table
  pub each_round : length outcomes ≡ rounds
  pub each : All (IsOutcomeOf test) outcomes

-- what a run of all rounds may result in
abbrev pub IsRunOf : LitmusTest → Run → Type 0
IsRunOf test (runs.Whole table) = IsTableFor test test.rounds table
IsRunOf test (runs.Stuck round) = round < test.rounds
