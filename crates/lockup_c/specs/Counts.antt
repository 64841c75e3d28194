-- What the exports show of what slices have counted.
use Rattle.std.specs.Prelude.{◌≡◌, ℕ, Option, None, Some, replicate, slice_get}
use Rattle.address_map.specs.declared.address.CoreId.{CoreId}
use Rattle.address_map.specs.declared.address.SliceId.{SliceId}
use Rattle.litmus_script.specs.Machine.{HasAt}
use Rattle.lockup_c.specs.Calls.{AtMachine, IfNamed}
use Rattle.lockup_c.specs.Named.{file_named, slice_named}
use Rattle.lockup_c.specs.declared.held.Held.{Held}
use Rattle.lockup_c.specs.declared.structs.CoreCounts.{CoreCounts}
use Rattle.lockup_c.specs.declared.structs.SliceCounts.{SliceCounts}
use Rattle.simulator.specs.Simulator.{config_of, slices_of}
use Rattle.simulator.specs.declared.simulator.Simulator.{Simulator}
use Rattle.slice_answer.specs.Stats.{StatsView}
use Rattle.slice_answer.specs.declared.stats.CoreStats.{CoreStats}
use Rattle.slice_answer.specs.declared.stats.MessageCounts.{MessageCounts}

abbrev pub no_core_counts : CoreCounts
no_core_counts = record { hits = 0; primary = 0; secondary = 0; stalls = replicate 5 0; evictions = 0; silent = 0 }

abbrev pub core_counts : Option CoreStats → CoreCounts
core_counts None = no_core_counts
core_counts (Some counts) = record {
  hits = counts.hits;
  primary = counts.primary;
  secondary = counts.secondary;
  stalls = counts.stalls;
  evictions = counts.evictions;
  silent = counts.silent;
}

pub record AreCoreCounts (named : CoreId × SliceId) (numbers : CoreCounts) (simulator : Simulator) : Type 0 where
  pub stats : StatsView
  pub is : HasAt (slices_of simulator) named.1.0 (λ state. stats ≡ state.stats)
  pub said : numbers ≡ core_counts (slice_get stats.cores named.0.0)

abbrev pub ShowsCoreCounts : ℕ → ℕ → ℕ → CoreCounts → Option Held → Type 0
ShowsCoreCounts core slice code numbers =
    AtMachine
    (λ simulator. IfNamed (file_named (config_of simulator) core slice)
    (λ named. (code ≡ 0) × AreCoreCounts named numbers simulator)
    ((code ≡ 2) × (numbers ≡ no_core_counts)))
    ((code ≡ 1) × (numbers ≡ no_core_counts))

abbrev pub no_slice_counts : SliceCounts
no_slice_counts = record { req = 0; fwd = 0; data_replies = 0; ack = 0; home = 0 }

abbrev pub slice_counts : MessageCounts → SliceCounts
slice_counts counts = record {
  req = counts.requests;
  fwd = counts.forwarded;
  data_replies = counts.data_replies;
  ack = counts.acknowledgements;
  home = counts.home;
}

pub record AreSliceCounts (slice : SliceId) (numbers : SliceCounts) (simulator : Simulator) : Type 0 where
  pub stats : StatsView
  pub is : HasAt (slices_of simulator) slice.0 (λ state. stats ≡ state.stats)
  pub said : numbers ≡ slice_counts stats.messages

abbrev pub ShowsSliceCounts : ℕ → ℕ → SliceCounts → Option Held → Type 0
ShowsSliceCounts slice code numbers =
    AtMachine
    (λ simulator. IfNamed (slice_named (config_of simulator) slice)
    (λ named. (code ≡ 0) × AreSliceCounts named numbers simulator)
    ((code ≡ 2) × (numbers ≡ no_slice_counts)))
    ((code ≡ 1) × (numbers ≡ no_slice_counts))
