use Rattle.std.proofs.Common.{◌≡◌, ◌++◌, ◌-◌, length, take}
use Rattle.std.specs.List.{flat_map}
use Rattle.slice_core_spec.specs.Parts.{ring_lines}
use Rattle.program_run.specs.Run.{waiting_of}
use Rattle.program_run.proofs.front.list_behind.Given as goal

-- those of the lines so far
abbrev pub invariant-loop-line : goal.invariant-loop-line
invariant-loop-line l =
    l.moves.items ≡ l.initial.moves.items ++ flat_map (waiting_of l.state.view) (take l.place (ring_lines l.state))

abbrev pub decreases-loop-line : goal.decreases-loop-line
decreases-loop-line l = length l.state.ring - l.place
