-- A machine is one slice's state for each slice of its configuration.
use Rattle.std.specs.Prelude.{◌≡◌, ℕ, ◌<◌, List, length, map, slice_get, slice_index_or, slice_set, [], Option, None}
use Rattle.std.specs.Prelude.{Some}
use Rattle.std.specs.Option.{option_map_or}
use Rattle.address_map.specs.Locator.{lines_of, local_at}
use Rattle.address_map.specs.declared.address.LineAddr.{LineAddr}
use Rattle.address_map.specs.declared.address.WordAddr.{WordAddr}
use Rattle.address_map.specs.declared.config.Config.{Config}
use Rattle.mshr_file.specs.Miss.{Bound}
use Rattle.slice_answer.specs.Stats.{StatsView}
use Rattle.slice_core.specs.Facts.{AreWaitingAt, ShowsLine, front_at}
use Rattle.slice_core.specs.Run.{AfterCall}
use Rattle.slice_core.specs.declared.run.Call.{Call}
use Rattle.slice_core.specs.declared.run.CallAnswer.{CallAnswer}
use Rattle.slice_core_spec.specs.Calls.{PartsView, IsNew}
use Rattle.slice_core_spec.specs.View.{View, IsQuiet}
use Rattle.slice_core_exec.specs.declared.line_view.LineView.{LineView}
use Rattle.slice_log.specs.Log.{initially, value}
use Rattle.slice_log.specs.declared.entry.Entry.{Entry}
use Rattle.slice_queues.specs.Pick.{channel_of, line_of}
use Rattle.slice_queues.specs.declared.channel.Channel.{Channel}
use Rattle.slice_queues.specs.declared.channel.Pick.{Pick}
use Rattle.slice_queues.specs.declared.message.Message.{Message}

-- the state is of this slice, with the configured cores, its share of the lines, and the configured setting
pub record IsSliceOf (config : Config) (id : ℕ) (p : PartsView) : Type 0 where
  pub cores : length p.view.caches ≡ config.cores
  pub lines : p.view.lines ≡ lines_of config (record { 0 = id })
  pub exclusive : p.stats.exclusive ≡ config.exclusive

-- each state is that of the slice at its place
abbrev pub AreSlicesOf : Config → List PartsView → Type 0
AreSlicesOf config slices = (i : ℕ) (d : PartsView) → i < length slices → IsSliceOf config i (slice_index_or slices i d)

-- the states are those of all slices, in order
pub record IsMachine (config : Config) (slices : List PartsView) : Type 0 where
  pub count : length slices ≡ config.slices
  pub each : AreSlicesOf config slices

-- each state is that of the slice at its place, with miss files of this bound, and no request so far
abbrev pub AreNew : Config → Bound → List PartsView → Type 0
AreNew config bound slices =
    (i : ℕ) (d : PartsView) → i < length slices → IsNew config bound (record { 0 = i }) (slice_index_or slices i d)

-- the states are those of a new machine
pub record IsNewMachine (config : Config) (bound : Bound) (slices : List PartsView) : Type 0 where
  pub count : length slices ≡ config.slices
  pub each : AreNew config bound slices

-- the old state gave this answer to the call, and became the new state
pub record Answers (call : Call) (answer : CallAnswer) (old new : PartsView) : Type 0 where
  pub made : AfterCall old call answer new

-- this slice changed as `Goes` says, and the others are unchanged
pub record OneSlice (slice : ℕ) (Goes : PartsView → PartsView → Type 0) (old new : List PartsView) : Type 0 where
  pub before : PartsView
  pub after : PartsView
  pub found : slice_get old slice ≡ Some before
  pub goes : Goes before after
  pub others : new ≡ slice_set old slice after

-- the slice answered this call in this way
abbrev pub IsAnswered : ℕ → Call → CallAnswer → List PartsView → List PartsView → Type 0
IsAnswered slice call answer old new = OneSlice slice (Answers call answer) old new

-- .. in some way
pub record IsMade (slice : ℕ) (call : Call) (old new : List PartsView) : Type 0 where
  pub answer : CallAnswer
  pub answered : IsAnswered slice call answer old new

-- what the slice has performed, in order; a slice that isn't there has performed nothing
abbrev pub log_at : List PartsView → ℕ → List Entry
log_at slices slice = option_map_or (λ state. state.view.log) (slice_get slices slice) []

-- the initial values of the slice's words that have one of their own
abbrev pub init_at : List PartsView → ℕ → List (WordAddr × ℕ)
init_at slices slice = option_map_or (λ state. state.view.init) (slice_get slices slice) []

-- the counters of the slices, in order
abbrev pub counts_in : List PartsView → List StatsView
counts_in slices = map (λ state. state.stats) slices

-- what a slice shows of its word: the word's value after the whole log if it is quiet, or else nothing
abbrev pub ShowsWord : View → WordAddr → Option ℕ → Type 0
ShowsWord v word (Some shown) = IsQuiet v × (shown ≡ value (initially v.init word.0) v.log word.0)
ShowsWord v word None = IsQuiet v → ⊥

-- `Holds` is true of this slice
pub record HasAt (slices : List PartsView) (slice : ℕ) (Holds : PartsView → Type 0) : Type 0 where
  pub state : PartsView
  pub found : slice_get slices slice ≡ Some state
  pub holds : Holds state

-- what the slice shows of its word
abbrev pub IsShownWord : List PartsView → ℕ → WordAddr → Option ℕ → Type 0
IsShownWord slices slice word shown = HasAt slices slice (λ state. ShowsWord state.view word shown)

-- what the slice shows of its line
abbrev pub IsShownLine : List PartsView → ℕ → LineAddr → LineView → Type 0
IsShownLine slices slice line shown =
    HasAt slices slice (λ state. ShowsLine state.view (local_at state.view.lines line.0) (Some shown))

-- the slice's view of a line: none for one that isn't its own
abbrev pub IsLineView : List PartsView → ℕ → LineAddr → Option LineView → Type 0
IsLineView slices slice line shown =
    HasAt slices slice (λ state. ShowsLine state.view (local_at state.view.lines line.0) shown)

-- the message at the front of the channel, if one waits there
abbrev pub IsFront : List PartsView → ℕ → Pick → Option Message → Type 0
IsFront slices slice pick front =
    HasAt slices slice
    (λ state. front ≡ front_at state.view (local_at state.view.lines (line_of pick).0) (channel_of pick))

-- the slice's channels of the line in which a message waits
abbrev pub AreWaiting : List PartsView → ℕ → LineAddr → List Channel → Type 0
AreWaiting slices slice line waiting =
    HasAt slices slice (λ state. AreWaitingAt state.view (local_at state.view.lines line.0) waiting)

-- the slice doesn't have the line
abbrev pub HasNoLine : List PartsView → ℕ → LineAddr → Type 0
HasNoLine slices slice line = HasAt slices slice (λ state. local_at state.view.lines line.0 ≡ None)

-- the slice is quiet, and this is its word's value after the whole log
abbrev pub IsQuietWord : List PartsView → ℕ → WordAddr → ℕ → Type 0
IsQuietWord slices slice word shown =
    (state : PartsView) → slice_get slices slice ≡ Some state
    → IsQuiet state.view × (shown ≡ value (initially state.view.init word.0) state.view.log word.0)

-- the counters of a slice of the machine
pub record IsCountOf (config : Config) (stats : StatsView) : Type 0 where
  pub cores : length stats.cores ≡ config.cores
  pub exclusive : stats.exclusive ≡ config.exclusive
