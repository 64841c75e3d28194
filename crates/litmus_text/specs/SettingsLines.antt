-- The lines of a machine's whole configuration.
use Rattle.std.specs.Prelude.{ℕ, List, [], ◌∷◌, ◌++◌, map}
use Rattle.std.specs.List.{flat_map}
use Rattle.address_map.specs.declared.address.WordAddr.{WordAddr}
use Rattle.address_map.specs.declared.config.Config.{Config}
use Rattle.litmus_text.specs.ConfigLine.{parts_of_config_line}
use Rattle.litmus_text.specs.declared.config_line.ConfigLine.{ConfigLine}
use Rattle.litmus_text.specs.declared.config_line.ConfigLine.TheVariants as config_lines
use Rattle.litmus_text.specs.declared.field.Count.TheVariants as counts
use Rattle.mshr_file.specs.declared.kind.MissKind.{MissKind}
use Rattle.litmus_text.specs.Line.{line_of_parts}

-- the numbers of a machine
abbrev pub counts_of : Config → List ConfigLine
counts_of c =
    config_lines.Count counts.Cores c.cores ∷ config_lines.Count counts.Slices c.slices
    ∷ config_lines.Count counts.Lines c.lines
    ∷ config_lines.Count counts.Sets c.sets ∷ config_lines.Count counts.Ways c.ways
    ∷ config_lines.Count counts.Mshrs c.mshrs
    ∷ config_lines.Count counts.Targets c.targets ∷ config_lines.Count counts.Writebacks c.writebacks ∷ []

-- a word that begins with a value of its own
abbrev pub init_line : WordAddr × ℕ → ConfigLine
init_line pair = config_lines.Init pair.0 pair.1

-- the whole configuration of a machine, each setting once
abbrev pub lines_of_settings : Config → MissKind → List ConfigLine
lines_of_settings c misses =
    counts_of c ++ config_lines.Policy c.policy ∷ config_lines.Misses misses ∷ config_lines.Exclusive c.exclusive
    ∷ map init_line c.init ++ map config_lines.Counter c.counters

-- the text of these lines
abbrev pub text_of_lines : List ConfigLine → List ℕ
text_of_lines all = flat_map (λ line. line_of_parts (parts_of_config_line line)) all
