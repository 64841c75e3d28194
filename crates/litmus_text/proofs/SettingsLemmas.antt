-- The text of a machine's whole configuration, in the pieces in which it is written.
use Rattle.std.proofs.Common.{◌≡◌, ℕ, List, ◌∷◌, ◌++◌, map, ap, append_assoc, codes, decimal, ◌∙◌}
use Rattle.std.proofs.lemmas.Grind.{flat_map-append}
use Rattle.address_map.specs.declared.address.WordAddr.{WordAddr}
use Rattle.address_map.specs.declared.config.Config.{Config}
use Rattle.litmus_text.specs.ConfigLine.{parts_of_config_line}
use Rattle.litmus_text.specs.declared.config_line.ConfigLine.{ConfigLine}
use Rattle.litmus_text.specs.declared.config_line.ConfigLine.TheVariants as config_lines
use Rattle.mshr_file.specs.declared.kind.MissKind.{MissKind}
use Rattle.litmus_text.specs.Line.{line_of_parts}
use Rattle.litmus_text.specs.SettingsLines.{counts_of, init_line, lines_of_settings, text_of_lines}

abbrev pub line_of : ConfigLine → List ℕ
line_of line = line_of_parts (parts_of_config_line line)

-- first the numbers, then what is named, then initial values and counters
pub settings_text : (c : Config) (misses : MissKind) → text_of_lines (lines_of_settings c misses) ≡
    text_of_lines (counts_of c) ++ (line_of (config_lines.Policy c.policy) ++ (line_of (config_lines.Misses misses)
    ++ (line_of (config_lines.Exclusive c.exclusive) ++ (text_of_lines (map init_line c.init)
    ++ text_of_lines (map config_lines.Counter c.counters)))))
settings_text c misses =
    let init = map init_line c.init in
    let counters = map config_lines.Counter c.counters in
    let behind = config_lines.Policy c.policy ∷ config_lines.Misses misses ∷ config_lines.Exclusive c.exclusive
    ∷ (init ++ counters) in
    let first : text_of_lines (counts_of c ++ behind) ≡ text_of_lines (counts_of c) ++ text_of_lines behind =
    flat_map-append line_of (counts_of c) behind in
    let last : text_of_lines (init ++ counters) ≡ text_of_lines init ++ text_of_lines counters =
    flat_map-append line_of init counters in
    first
    ∙ ap (λ (rest : List ℕ). text_of_lines (counts_of c)
    ++ (line_of (config_lines.Policy c.policy) ++ (line_of (config_lines.Misses misses)
    ++ (line_of (config_lines.Exclusive c.exclusive) ++ rest)))) last

-- the line of an initial value, in the pieces in which it is written
pub init_text : (pair : WordAddr × ℕ) (rest : List ℕ) → line_of (init_line pair) ++ rest ≡
    (codes "init " ++ (decimal pair.0.0 ++ (codes " " ++ (decimal pair.1 ++ codes "\n")))) ++ rest
init_text pair rest =
    ap (λ (text : List ℕ). (codes "init " ++ text) ++ rest)
    (append_assoc (decimal pair.0.0) (codes " " ++ decimal pair.1) (codes "\n"))
