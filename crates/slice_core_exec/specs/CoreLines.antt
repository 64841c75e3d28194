-- The lines that a core has a copy of, by where the copies are.
use Rattle.std.specs.Prelude.{◌-◌, List, [], length, map, slice_get, Option, Some, None}
use Rattle.address_map.specs.Locator.{line_at, local_at}
use Rattle.address_map.specs.declared.address.CoreId.{CoreId}
use Rattle.address_map.specs.declared.address.LineAddr.{LineAddr}
use Rattle.address_map.specs.declared.address.Local.{Local}
use Rattle.cache_array.specs.Array.{lines_at}
use Rattle.mshr_file.specs.Miss.{waited_lines}
use Rattle.slice_core_cache.specs.CoreCache.{leaving_lines}
use Rattle.slice_core_spec.specs.View.{View, cache_at}
use Rattle.slice_core_exec.specs.declared.core_lines.CoreLines.{CoreLines}
use Rattle.slice_core_exec.specs.declared.core_lines.CoreLines.TheVariants as core_lines

-- the lines in the set of a line; a line that isn't the slice's has no set
abbrev pub set_of : View → CoreId → Option Local → List Local
set_of v core None = []
set_of v core (Some local) = lines_at (cache_at v core).array local

-- the lines by their places in the slice
abbrev pub places_of : View → CoreId → CoreLines → List Local
places_of v core core_lines.Waiting = waited_lines (cache_at v core).misses
places_of v core core_lines.Leaving = leaving_lines (cache_at v core)
places_of v core (core_lines.InSetOf line) = set_of v core (local_at v.lines line.0)

-- .. and by their numbers in the memory
abbrev pub lines_of_core : View → CoreId → CoreLines → List LineAddr
lines_of_core v core lines = map (line_at v.lines) (places_of v core lines)

-- the line that the core's write-back buffer took in last: after a miss for which one had to leave, the victim
abbrev pub last_written_back : View → CoreId → Option LineAddr
last_written_back v core =
    let lines : List LineAddr = lines_of_core v core core_lines.Leaving in slice_get lines (length lines - 1)
