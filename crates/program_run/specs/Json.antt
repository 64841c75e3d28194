-- The report as one value of JSON (RFC 8259).
use Rattle.std.specs.Prelude.{ℕ, ◌==◌, Bool, true, false, not, List, [], ◌++◌, codes, decimal, filter, length, map}
use Rattle.std.specs.List.{range_with_len}
use Rattle.litmus_text.specs.JsonList.{with_commas}
use Rattle.litmus_text.specs.JsonNumber.{number_of}
use Rattle.program_run.specs.declared.column.Column.{Column}
use Rattle.program_run.specs.declared.tally.Counts.{Counts}
use Rattle.program_run.specs.Column.{columns_of_all, columns_of_core, count_in, key_of, line_columns, pace_columns}
use Rattle.program_run.specs.Tally.{TallyView, counts_at, requests_of, totals_of}
use Rattle.program_run.specs.Usage.{no_usage, usage_at, usage_of_all}
use Rattle.program_run.specs.declared.usage.Usage.{Usage}
use Rattle.program_text.specs.Judged.{is_limited as is_said}
use Rattle.program_text.specs.declared.programs.Limits.{Limits}

-- what a column shows, under its key
abbrev pub member_of : Counts → Column → List ℕ
member_of counts column = codes "\"" ++ (key_of column ++ (codes "\":" ++ number_of (count_in column counts)))

-- what columns show of some counts
abbrev pub members_of : List Column → Counts → List ℕ
members_of columns counts = with_commas (map (member_of counts) columns)

-- what was in use of a core or of all, where several accesses of each may be under way
abbrev pub usage_members : Bool → Usage → List ℕ
usage_members false usage = []
usage_members true usage =
    codes ",\"moves\":" ++ (number_of usage.moves
    ++ (codes ",\"registers_most\":" ++ (number_of usage.most_registers
    ++ (codes ",\"registers_sum\":" ++ (number_of usage.sum_registers
    ++ (codes ",\"targets_most\":" ++ (number_of usage.most_targets
    ++ (codes ",\"targets_sum\":" ++ number_of usage.sum_targets))))))))

-- how many moves there were, unless that is written already
abbrev pub moves_member : Bool → ℕ → List ℕ
moves_member true moves = []
moves_member false moves = codes ",\"moves\":" ++ number_of moves

-- how many moves a run made, and how many of them delivered, if it is given how many deliveries each slice makes
abbrev pub pace_members : Bool → Bool → ℕ → Counts → List ℕ
pace_members is_limited false moves all = []
pace_members is_limited true moves all = moves_member is_limited moves ++ codes "," ++ members_of pace_columns all

-- the object of a core
abbrev pub core_object : Bool → ℕ → Counts → Usage → List ℕ
core_object is_limited core counts usage =
    codes "{\"core\":" ++ (decimal core ++ codes ",") ++ members_of (columns_of_core is_limited) counts
    ++ usage_members is_limited usage ++ codes "}"

-- the object of a line
abbrev pub line_object : ℕ → Counts → List ℕ
line_object line counts =
    codes "{\"line\":" ++ (decimal line ++ codes ",") ++ members_of line_columns counts ++ codes "}"

-- the objects of these cores
abbrev pub objects_of_cores : Bool → List Counts → List Usage → List ℕ → List (List ℕ)
objects_of_cores is_limited counts usages cores =
    map (λ core. core_object is_limited core (counts_at counts core) (usage_at usages core)) cores

-- all of them
abbrev pub core_objects_of : Bool → List Counts → List Usage → List ℕ
core_objects_of is_limited cores usages =
    with_commas (objects_of_cores is_limited cores usages (range_with_len 0 (length cores)))

-- there was an access to the line
abbrev pub is_asked : List Counts → ℕ → Bool
is_asked counts line = not (requests_of (counts_at counts line) == 0)

-- the objects of those of these lines that were asked for
abbrev pub objects_of_lines : List Counts → List ℕ → List (List ℕ)
objects_of_lines counts lines = map (λ line. line_object line (counts_at counts line)) (filter (is_asked counts) lines)

-- all of them
abbrev pub line_objects_of : List Counts → List ℕ
line_objects_of lines = with_commas (objects_of_lines lines (range_with_len 0 (length lines)))

-- the whole value, in one line
abbrev pub json_of : TallyView → List Usage → Limits → ℕ → List ℕ
json_of tally usages limits seed =
    codes "{\"seed\":" ++ (number_of seed ++ codes ",\"cores\":[")
    ++ core_objects_of (is_said limits.outstanding) tally.cores usages
    ++ codes "],\"lines\":[" ++ line_objects_of tally.lines
    ++ codes "],\"all\":{" ++ members_of (columns_of_all (is_said limits.outstanding)) (totals_of tally.lines)
    ++ usage_members (is_said limits.outstanding) (usage_of_all no_usage usages)
    ++ pace_members (is_said limits.outstanding) (is_said limits.pace) (usage_of_all no_usage usages).moves
    (totals_of tally.lines)
    ++ codes "}}\n"
