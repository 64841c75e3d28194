use Rattle.std.proofs.Common.{◌≡◌, map, take}
use Rattle.address_map.specs.Locator.{line_at}
use Rattle.slice_core_exec.proofs.parts.look.lines_at.Given as goal

-- those so far
abbrev pub invariant-loop-place : goal.invariant-loop-place
invariant-loop-place l = l.lines.items ≡ map (line_at l.own) (take l.place-index l.places)
