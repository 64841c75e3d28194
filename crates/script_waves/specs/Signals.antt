-- The signals of a line and of a core, and what is before the values: a scope for each, with its signals.
use Rattle.std.specs.Prelude.{ℕ, List, ◌++◌, codes, decimal}
use Rattle.std.specs.List.{flat_map, range_with_len}
use Rattle.address_map.specs.declared.address.LineAddr.{LineAddr}
use Rattle.script_waves.specs.declared.signal.Signal.{Signal}
use Rattle.script_waves.specs.declared.signal.Signal.TheVariants as signals
use Rattle.script_waves.specs.declared.signal.Use.{Use}
use Rattle.script_waves.specs.declared.signal.Use.TheVariants as uses

-- a signal's name, within its line
abbrev pub name_of : Signal → List ℕ
name_of signals.Directory = codes "directory"
name_of (signals.Copy core) = codes "core" ++ decimal core
name_of signals.Channels = codes "in_flight"
name_of signals.Total = codes "channels"

-- the code that identifies it in the file
abbrev pub code_of : LineAddr → Signal → List ℕ
code_of line signals.Directory = decimal line.0 ++ codes ".d"
code_of line (signals.Copy core) = decimal line.0 ++ codes "." ++ decimal core
code_of line signals.Channels = decimal line.0 ++ codes ".m"
code_of line signals.Total = decimal line.0 ++ codes ".n"

-- a signal is declared. Its values are texts.
abbrev pub text_of_signal : LineAddr → Signal → List ℕ
text_of_signal line signal =
    codes "$var string 1 " ++ code_of line signal ++ codes " " ++ name_of signal ++ codes " $end\n"

-- .. and one whose values are numbers
abbrev pub text_of_total : LineAddr → List ℕ
text_of_total line =
    codes "$var integer 32 " ++ code_of line signals.Total ++ codes " " ++ name_of signals.Total ++ codes " [31:0] $end\n"

-- those of the copies, one a core
abbrev pub text_of_copies : LineAddr → ℕ → List ℕ
text_of_copies line cores = flat_map (λ core. text_of_signal line (signals.Copy core)) (range_with_len 0 cores)

-- where the scope of a line begins
abbrev pub text_of_opening : LineAddr → List ℕ
text_of_opening line = codes "$scope module line" ++ decimal line.0 ++ codes " $end\n"

-- a line's signals
abbrev pub text_of_scope : ℕ → LineAddr → List ℕ
text_of_scope cores line =
    text_of_opening line ++ (text_of_signal line signals.Directory ++ (text_of_copies line cores
    ++ (text_of_signal line signals.Channels ++ (text_of_total line ++ codes "$upscope $end\n"))))

-- ---- what a core has in use of a slice

-- its name, within its core
abbrev pub name_of_use : Use → List ℕ
name_of_use uses.Registers = codes "registers"
name_of_use uses.Targets = codes "targets"
name_of_use uses.WriteBacks = codes "writebacks"

-- the code that identifies it in the file
abbrev pub code_of_use : ℕ → ℕ → Use → List ℕ
code_of_use slice core uses.Registers = codes "r" ++ decimal slice ++ codes "." ++ decimal core
code_of_use slice core uses.Targets = codes "t" ++ decimal slice ++ codes "." ++ decimal core
code_of_use slice core uses.WriteBacks = codes "w" ++ decimal slice ++ codes "." ++ decimal core

-- it is declared. Its values are numbers.
abbrev pub text_of_number : ℕ → ℕ → Use → List ℕ
text_of_number slice core of =
    codes "$var integer 32 " ++ code_of_use slice core of ++ codes " " ++ name_of_use of ++ codes " [31:0] $end\n"

-- a core's signals
abbrev pub text_of_core : ℕ → ℕ → List ℕ
text_of_core slice core =
    (codes "$scope module core" ++ decimal core ++ codes " $end\n")
    ++ (text_of_number slice core uses.Registers ++ (text_of_number slice core uses.Targets
    ++ (text_of_number slice core uses.WriteBacks ++ codes "$upscope $end\n")))

-- those of each core, in the scope of a slice
abbrev pub text_of_slice : ℕ → ℕ → List ℕ
text_of_slice cores slice =
    (codes "$scope module slice" ++ decimal slice ++ codes " $end\n")
    ++ (flat_map (text_of_core slice) (range_with_len 0 cores) ++ codes "$upscope $end\n")

-- those of each slice
abbrev pub text_of_slices : ℕ → ℕ → List ℕ
text_of_slices cores slices = flat_map (text_of_slice cores) (range_with_len 0 slices)

-- ---- all of them

-- what is before the values: the signals of these lines and of all cores, and the time at which nothing was played
-- yet
abbrev pub text_of_header : ℕ → ℕ → List LineAddr → List ℕ
text_of_header cores slices lines =
    codes "$version lockup $end\n$timescale 1 ns $end\n$scope module run $end\n$var string 1 c command $end\n"
    ++ (flat_map (text_of_scope cores) lines
    ++ (text_of_slices cores slices ++ codes "$upscope $end\n$enddefinitions $end\n#0\ns- c\n"))
