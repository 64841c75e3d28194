-- The traces of slices, one after another.
use Rattle.std.proofs.Common.{◌≡◌, ℕ, suc, ◌+◌, ◌<◌, ◌≤◌, List, ◌++◌, Option, arith, refl, subst}
use Rattle.std.specs.Io.KnownBytes.{Appends}
use Rattle.std.proofs.KnownBytes.{Appends-trans}
use Rattle.litmus_threads.proofs.Histories.{entries-of}
use Rattle.core_thread_system.specs.Core.{CoreView}
use Rattle.litmus_threads.specs.Made.{AreOwners}
use Rattle.litmus_threads.specs.Log.{AreEntriesOf}
use Rattle.drain.specs.Audited.{IsAudited}
use Rattle.litmus_threads.specs.Trace.{AreTracesBelow, IsLogOf, text_of_slice}
use Rattle.address_map.specs.declared.config.Config.{Config}
use Rattle.drain.specs.declared.report.CounterValue.{CounterValue}
use Rattle.slice_log.specs.declared.entry.Entry.{Entry}
use Rattle.receipt_ledger.specs.declared.receipt.Receipt.{Receipt}

-- the traces of the slices below this number are written
abbrev pub HasTraces : Config → List Receipt → List CounterValue → Option (List ℕ) → ℕ → Option (List ℕ) → Type 0
HasTraces c receipts counters before slice now =
    (cores : List CoreView) → AreOwners c cores → IsAudited c cores receipts counters
    → (text : List ℕ) × AreTracesBelow c cores counters slice text × Appends before now text

-- .. and that of one more
pub traces-more : (c : Config) (receipts : List Receipt) (counters : List CounterValue) (slice : ℕ)
    (before middle after : Option (List ℕ)) → c.slices ≤ 4 → slice < c.slices
    → HasTraces c receipts counters before slice middle
    → ((log : List Entry) → AreEntriesOf (record { 0 = slice }) receipts log
    → Appends middle after (text_of_slice c counters slice log))
    → HasTraces c receipts counters before (slice + 1) after
traces-more c receipts counters slice before middle after few within so_far next = λ cores owners audited.
    let (text, traces, wrote) = so_far cores owners audited in
    let settled = audited.history slice within in
    let log = settled.log in
    let are : AreEntriesOf (record { 0 = slice }) receipts log =
    rw audited.receipts_are (entries-of c cores slice log few within owners settled.history) in
    let one : suc slice ≡ slice + 1 = omega arith in
    let is : IsLogOf c cores slice log =
    record { history = settled.history; legal = settled.legal; ordered = settled.ordered } in
    let more : AreTracesBelow c cores counters (suc slice) (text ++ text_of_slice c counters slice log) =
    (text, log, traces, is, refl) in (
      text ++ text_of_slice c counters slice log,
      subst (λ (n : ℕ). AreTracesBelow c cores counters n (text ++ text_of_slice c counters slice log)) one more,
      Appends-trans before middle after text (text_of_slice c counters slice log) wrote (next log are),
    )

-- .. until it is the last
pub traces-ended : (c : Config) (receipts : List Receipt) (counters : List CounterValue) (slice : ℕ)
    (before after : Option (List ℕ)) → slice ≡ c.slices → HasTraces c receipts counters before slice after
    → HasTraces c receipts counters before c.slices after
traces-ended c receipts counters slice before after last all =
    subst (λ (n : ℕ). HasTraces c receipts counters before n after) last all
