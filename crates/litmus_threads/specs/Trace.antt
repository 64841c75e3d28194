-- The traces of a round: each slice's log, and after it what the audit found.
use Rattle.std.specs.Prelude.{◌≡◌, ◌⊎◌, ℕ, zero, suc, ◌==◌, ◌%◌, ◌^◌, nat_lt, if◌then◌else◌, List, [], ◌++◌, codes}
use Rattle.std.specs.Prelude.{decimal, filter, length}
use Rattle.std.specs.List.{flat_map, range_with_len}
use Rattle.address_map.specs.Place.{init_of, is_of_slice}
use Rattle.address_map.specs.Words.{initial_value}
use Rattle.address_map.specs.declared.config.Config.{Config}
use Rattle.core_thread_system.specs.Core.{CoreView}
use Rattle.drain.specs.Audited.{IsAudited}
use Rattle.drain.specs.Receipts.{ports_of}
use Rattle.drain.specs.declared.report.CounterValue.{CounterValue}
use Rattle.litmus_test.specs.Form.{text_of_stuck}
use Rattle.litmus_test.specs.declared.outcomes.form.OutcomeForm.TheVariants as forms
use Rattle.litmus_script.specs.Shown.{text_of_trace}
use Rattle.litmus_test.specs.declared.test.LitmusTest.{LitmusTest}
use Rattle.litmus_threads.specs.Made.{HaveMadeAll}
use Rattle.receipt_ledger.specs.History.{AreHistory}
use Rattle.receipt_ledger.specs.declared.receipt.Receipt.{Receipt}
use Rattle.slice_log.specs.Log.{IsLegal, IsOrdered, initially, named}
use Rattle.slice_log.specs.declared.entry.Entry.{Entry}

-- ---- the text

-- the line before a slice's trace, if the machine has several slices
abbrev pub heading_of : Config → ℕ → List ℕ
heading_of c slice = if nat_lt 1 c.slices then codes "# slice " ++ (decimal slice ++ codes "\n") else []

-- how many of the accesses are the core's
abbrev pub accesses_by : ℕ → List Entry → ℕ
accesses_by core log = length (filter (λ entry. entry.core.0 == core) log)

abbrev pub text_of_core : List Entry → ℕ → List ℕ
text_of_core log core =
    codes "# core " ++ (decimal core ++ (codes ": " ++ (decimal (accesses_by core log)
    ++ codes " of these accesses, each once\n")))

-- the number of accesses of each core
abbrev pub text_of_cores : ℕ → List Entry → List ℕ
text_of_cores cores log = flat_map (text_of_core log) (range_with_len 0 cores)

-- a counter's initial value, what the accesses add to it modulo 2^64, and its value
abbrev pub text_of_counter : Config → List Entry → CounterValue → List ℕ
text_of_counter c log counter =
    codes "# counter " ++ (decimal counter.word.0 ++ (codes ": " ++ (decimal (initial_value c.init counter.word)
    ++ (codes " at first, " ++ (decimal (named log counter.word.0 % 2 ^ 64) ++ (codes " added, "
    ++ (decimal counter.value ++ codes " now\n")))))))

-- the text of each counter of the slice
abbrev pub text_of_counters : Config → ℕ → List Entry → List CounterValue → List ℕ
text_of_counters c slice log counters =
    flat_map (text_of_counter c log) (filter (λ counter. is_of_slice c slice counter.word) counters)

-- a slice's log as a trace, and after it what the audit found
abbrev pub text_of_slice : Config → List CounterValue → ℕ → List Entry → List ℕ
text_of_slice c counters slice log =
    heading_of c slice ++ (text_of_trace c.cores (init_of c slice) log ++ (text_of_cores c.cores log
    ++ text_of_counters c slice log counters))

-- ---- of which logs

-- By number, the receipts that the cores have of the slice are exactly this log: it is legal, and in each core's order.
pub record IsLogOf (c : Config) (cores : List CoreView) (slice : ℕ) (log : List Entry) : Type 0 where
  pub history : AreHistory (ports_of cores slice) log
  pub legal : IsLegal (initially (init_of c slice)) log
  pub ordered : IsOrdered log

-- the traces of the slices below this number, one after another: each of such a log
abbrev pub AreTracesBelow : Config → List CoreView → List CounterValue → ℕ → List ℕ → Type 0
AreTracesBelow c cores counters zero text = text ≡ []
AreTracesBelow c cores counters (suc slice) text =
    (before : List ℕ) × (log : List Entry) × AreTracesBelow c cores counters slice before × IsLogOf c cores slice log
    × (text ≡ before ++ text_of_slice c counters slice log)

-- ---- how it ends

-- The cores of a machine made the requests of the test's threads and no others, the machine was audited with them, and
-- the trace of each slice was written.
pub record IsTraced (test : LitmusTest) (written : List ℕ → Type 0) (status : ℕ) : Type 0 where
  pub cores : List CoreView
  pub receipts : List Receipt
  pub counters : List CounterValue
  pub made : HaveMadeAll test.config test.threads.items cores
  pub audited : IsAudited test.config cores receipts counters
  pub text : List ℕ
  pub traces : AreTracesBelow test.config cores counters test.config.slices text
  pub is_written : written text
  pub status_is : status ≡ 0

-- .. or the round was stuck, and that was written
abbrev pub IsTraceEnd : LitmusTest → ℕ → (List ℕ → Type 0) → ℕ → Type 0
IsTraceEnd test round written status =
    IsTraced test written status ⊎ (written (text_of_stuck forms.Table round) × (status ≡ 1))
