-- What each export shows of what a handle has, by the code that it returns.
use Rattle.std.specs.Prelude.{◌≡◌, ◌↔◌, ℕ, ◌%◌, ◌/◌, All, Bool, IsTrue, Option, None, Some, length, replicate, slice_get}
use Rattle.address_map.specs.Locator.{local_at}
use Rattle.address_map.specs.declared.address.CoreId.{CoreId}
use Rattle.address_map.specs.declared.address.LineAddr.{LineAddr}
use Rattle.address_map.specs.declared.address.WordAddr.{WordAddr}
use Rattle.litmus_script.specs.Machine.{HasAt, IsLineView, IsShownWord, log_at}
use Rattle.lockup_c.specs.Calls.{AtMachine, IfNamed}
use Rattle.lockup_c.specs.Named.{copy_named, line_named, slice_named, word_named}
use Rattle.lockup_c.specs.Number.{copy_number, core_number, dir_number, flag, op_number, operand_of, replacement_of}
use Rattle.lockup_c.specs.declared.held.Held.{Held}
use Rattle.lockup_c.specs.declared.structs.CopyNumbers.{CopyNumbers}
use Rattle.lockup_c.specs.declared.structs.DirectoryNumbers.{DirectoryNumbers}
use Rattle.lockup_c.specs.declared.structs.EntryNumbers.{EntryNumbers}
use Rattle.lockup_c.specs.declared.structs.WordNumbers.{WordNumbers}
use Rattle.simulator.specs.Simulator.{config_of, slices_of}
use Rattle.simulator.specs.declared.simulator.Simulator.{Simulator}
use Rattle.slice_core.specs.Facts.{copy_at}
use Rattle.slice_core_cache.specs.declared.copy.CacheCopy.{CacheCopy}
use Rattle.slice_core_spec.specs.View.{IsQuiet}
use Rattle.slice_core_exec.specs.declared.line_view.LineView.{LineView}
use Rattle.slice_log.specs.declared.entry.Entry.{Entry}

-- ---- a core's copy of a line

abbrev pub no_copy : CopyNumbers
no_copy = record { state = 0; wants = 0; counted = 0; block = replicate 8 0 }

abbrev pub copy_numbers : Option CacheCopy → CopyNumbers
copy_numbers None = no_copy
copy_numbers (Some copy) = record {
  state = copy_number copy.state;
  wants = copy.wants;
  counted = copy.counted;
  block = copy.block.words;
}

pub record IsCopy (named : CoreId × LineAddr) (numbers : CopyNumbers) (simulator : Simulator) : Type 0 where
  pub copy : Option CacheCopy
  pub is : HasAt (slices_of simulator) (named.1.0 % (config_of simulator).slices)
      (λ state. copy ≡ copy_at state.view named.0 (local_at state.view.lines named.1.0))
  pub said : numbers ≡ copy_numbers copy

abbrev pub ShowsCopy : ℕ → ℕ → ℕ → CopyNumbers → Option Held → Type 0
ShowsCopy core line code numbers =
    AtMachine
    (λ simulator. IfNamed (copy_named (config_of simulator) core line)
    (λ named. (code ≡ 0) × IsCopy named numbers simulator)
    ((code ≡ 2) × (numbers ≡ no_copy)))
    ((code ≡ 1) × (numbers ≡ no_copy))

-- ---- the directory's entry of a line

abbrev pub no_directory : DirectoryNumbers
no_directory = record { state = 0; owner = 0; sharers = 0; home = replicate 8 0 }

abbrev pub directory_numbers : Option LineView → DirectoryNumbers
directory_numbers None = no_directory
directory_numbers (Some shown) = record {
  state = dir_number shown.dir;
  owner = core_number shown.owner;
  sharers = shown.sharers;
  home = shown.home;
}

pub record IsDirectory (line : LineAddr) (numbers : DirectoryNumbers) (simulator : Simulator) : Type 0 where
  pub shown : Option LineView
  pub is : IsLineView (slices_of simulator) (line.0 % (config_of simulator).slices) line shown
  pub said : numbers ≡ directory_numbers shown

abbrev pub ShowsDirectory : ℕ → ℕ → DirectoryNumbers → Option Held → Type 0
ShowsDirectory line code numbers =
    AtMachine
    (λ simulator. IfNamed (line_named (config_of simulator) line)
    (λ named. (code ≡ 0) × IsDirectory named numbers simulator)
    ((code ≡ 2) × (numbers ≡ no_directory)))
    ((code ≡ 1) × (numbers ≡ no_directory))

-- ---- quiet slices, and the words of one

pub record IsQuietNumber (number : ℕ) (simulator : Simulator) : Type 0 where
  pub quiet : Bool
  pub is : IsTrue quiet ↔ All (λ state. IsQuiet state.view) (slices_of simulator)
  pub said : number ≡ flag quiet

abbrev pub ShowsQuiet : ℕ → ℕ → Option Held → Type 0
ShowsQuiet code number =
    AtMachine (λ simulator. (code ≡ 0) × IsQuietNumber number simulator) ((code ≡ 1) × (number ≡ 0))

abbrev pub no_word : WordNumbers
no_word = record { quiet = 0; value = 0 }

abbrev pub word_numbers : Option ℕ → WordNumbers
word_numbers None = no_word
word_numbers (Some value) = record { quiet = 1; value = value }

pub record IsWord (word : WordAddr) (numbers : WordNumbers) (simulator : Simulator) : Type 0 where
  pub shown : Option ℕ
  pub is : IsShownWord (slices_of simulator) (word.0 / 8 % (config_of simulator).slices) word shown
  pub said : numbers ≡ word_numbers shown

abbrev pub ShowsWord : ℕ → ℕ → WordNumbers → Option Held → Type 0
ShowsWord word code numbers =
    AtMachine
    (λ simulator. IfNamed (word_named (config_of simulator) word)
    (λ named. (code ≡ 0) × IsWord named numbers simulator)
    ((code ≡ 2) × (numbers ≡ no_word)))
    ((code ≡ 1) × (numbers ≡ no_word))

-- ---- the log of a slice

abbrev pub ShowsEntries : ℕ → ℕ → ℕ → Option Held → Type 0
ShowsEntries slice code count =
    AtMachine
    (λ simulator. IfNamed (slice_named (config_of simulator) slice)
    (λ named. (code ≡ 0) × (count ≡ length (log_at (slices_of simulator) named.0)))
    ((code ≡ 2) × (count ≡ 0)))
    ((code ≡ 1) × (count ≡ 0))

abbrev pub no_entry : EntryNumbers
no_entry = record {
  core = 0;
  seq = 0;
  tag = 0;
  op = 0;
  word = 0;
  operand = 0;
  replacement = 0;
  reply = 0;
  since = 0;
}

abbrev pub entry_numbers : Entry → EntryNumbers
entry_numbers entry = record {
  core = entry.core.0;
  seq = entry.seq;
  tag = entry.tag;
  op = op_number entry.op;
  word = entry.word.0;
  operand = operand_of entry.op;
  replacement = replacement_of entry.op;
  reply = entry.reply;
  since = entry.since;
}

abbrev pub ShowsEntry : ℕ → ℕ → ℕ → EntryNumbers → Option Held → Type 0
ShowsEntry slice nth code numbers =
    AtMachine
    (λ simulator. IfNamed (slice_named (config_of simulator) slice)
    (λ named. IfNamed (slice_get (log_at (slices_of simulator) named.0) nth)
    (λ entry. (code ≡ 0) × (numbers ≡ entry_numbers entry))
    ((code ≡ 2) × (numbers ≡ no_entry)))
    ((code ≡ 2) × (numbers ≡ no_entry)))
    ((code ≡ 1) × (numbers ≡ no_entry))
