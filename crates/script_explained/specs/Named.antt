-- The copies of a core that are named as the reason for an answer.
use Rattle.std.specs.Prelude.{ℕ, List, [], ◌++◌, codes, decimal, map, option_to_list, IsPermutation}
use Rattle.std.specs.List.{flat_map}
use Rattle.std.specs.List.Sorted.{IsNonDecreasing}
use Rattle.address_map.specs.declared.address.CoreId.{CoreId}
use Rattle.address_map.specs.declared.address.LineAddr.{LineAddr}
use Rattle.cache_table.specs.Name.{name_of}
use Rattle.cache_table.specs.declared.state.CopyState.{CopyState}
use Rattle.script_explained.specs.Look.{copy_at}
use Rattle.script_explained.specs.declared.named.Named.{Named}
use Rattle.script_explained.specs.declared.named.Named.TheVariants as named_kinds
use Rattle.slice_answer.specs.declared.answer.Stall.{Stall}
use Rattle.slice_answer.specs.declared.answer.Stall.TheVariants as stalls
use Rattle.slice_core_cache.specs.declared.access.AccessKind.TheVariants as access_kinds
use Rattle.slice_core_cache.specs.declared.access.Placement.TheVariants as placements
use Rattle.slice_core_spec.specs.View.{View}
use Rattle.slice_core_spec.specs.declared.decision.Decision.{Decision}
use Rattle.slice_core_spec.specs.declared.decision.Decision.TheVariants as decisions
use Rattle.slice_core_exec.specs.CoreLines.{last_written_back, lines_of_core}
use Rattle.slice_core_exec.specs.declared.core_lines.CoreLines.TheVariants as core_lines

-- Which copies are in the way of an access, by what is decided of it: without a free register those that wait, without
-- a free way those of its set, with a full write-back buffer those being written back; and the victim of a miss.
abbrev pub named_by_stall : LineAddr → Stall → Named
named_by_stall line stalls.NoRegister = named_kinds.Lines core_lines.Waiting
named_by_stall line stalls.NoWay = named_kinds.Lines (core_lines.InSetOf line)
named_by_stall line stalls.WriteBackFull = named_kinds.Lines core_lines.Leaving
named_by_stall line stall = named_kinds.Nothing

abbrev pub named_by : LineAddr → Decision → Named
named_by line (decisions.Access local (access_kinds.Stall stall)) = named_by_stall line stall
named_by line (decisions.Access local (access_kinds.PrimaryMiss next ask placements.Victim)) = named_kinds.Victim
named_by line decision = named_kinds.Nothing

-- The lines of these copies. A victim is what the core's write-back buffer took in last.
abbrev pub named_lines : Named → View → CoreId → List LineAddr
named_lines named_kinds.Nothing v core = []
named_lines named_kinds.Victim v core = option_to_list (last_written_back v core)
named_lines (named_kinds.Lines which) v core = lines_of_core v core which

-- these are their numbers, in ascending order
pub record AreNamed (which : Named) (v : View) (core : CoreId) (numbers : List ℕ) : Type 0 where
  pub all : IsPermutation (map (λ line. line.0) (named_lines which v core)) numbers
  pub ascending : IsNonDecreasing numbers

-- the state of a copy, to which a victim has just gone
abbrev pub text_of_state : Named → CopyState → List ℕ
text_of_state named_kinds.Victim state = codes " to " ++ name_of state
text_of_state which state = codes " " ++ name_of state

-- the copy of a line
abbrev pub text_of_copy : Named → View → CoreId → ℕ → List ℕ
text_of_copy which v core line =
    codes "; line " ++ decimal line ++ text_of_state which (copy_at v (record { 0 = line }) core)

-- the copies of these lines
abbrev pub text_of_copies : Named → View → CoreId → List ℕ → List ℕ
text_of_copies which v core lines = flat_map (text_of_copy which v core) lines
