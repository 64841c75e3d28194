-- What the lines of a trace report of rules that fired.
use Rattle.std.specs.Prelude.{ℕ, ◌+◌, ◌-◌, List, Option, None, Some, codes, drop, length, take, option_and_then}
use Rattle.std.specs.Prelude.{option_map, if◌then◌else◌}
use Rattle.std.specs.Borrow.{Bor}
use Rattle.std.specs.List.{filter_map}
use Rattle.std.specs.Str.{bytes_eq}
use Rattle.bstr.specs.Find.{first_of, matches}
use Rattle.murphi_trace.specs.declared.fired.Fired.{Fired}

-- what follows a mark, of a text that begins with it
unfoldable pub behind : List ℕ → List ℕ → Option (List ℕ)
behind mark text = if bytes_eq (take (length mark) text) mark then Some (drop (length mark) text) else None

-- what is before a mark, of a text that ends with it
unfoldable pub before : List ℕ → List ℕ → Option (List ℕ)
before mark text =
    if bytes_eq (drop (length text - length mark) text) mark then Some (take (length text - length mark) text) else None

-- what is before a mark's first place in a text, and after it
unfoldable pub parts_around : List ℕ → List ℕ → Option (List ℕ × List ℕ)
parts_around mark text = option_map (λ k. (take k text, drop (k + length mark) text)) (first_of (matches text mark 0))

-- A line `Rule "NAME"CORES fired.` reports that a rule fired: its name, and for which cores, as `, c: 0, f: 1`.
abbrev pub fired_by : List ℕ → Option (List ℕ × List ℕ)
fired_by line =
    option_and_then
    (parts_around (codes "\"")) (option_and_then (before (codes " fired.")) (behind (codes "Rule \"") line))

-- the rules that fired, in order
abbrev pub fired_in : List (List ℕ) → List (List ℕ × List ℕ)
fired_in lines = filter_map fired_by lines

-- the bytes of two texts, and of what was read of a line
abbrev pub pair_of : Bor (List ℕ) × Bor (List ℕ) → List ℕ × List ℕ
pair_of parts = (parts.0.now, parts.1.now)

abbrev pub name_and_cores : Fired → List ℕ × List ℕ
name_and_cores fired = (fired.name.now, fired.cores.now)
