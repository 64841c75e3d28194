-- A page: what a browser needs, and in it the run of a script as one value of JSON.
use Rattle.std.specs.Prelude.{◌≡◌, ◌⊎◌, ℕ, Bool, true, false, List, [], ◌++◌, codes, Option}
use Rattle.std.specs.Io.KnownBytes.{Appends}
use Rattle.address_map.specs.declared.config.Config.{Config}
use Rattle.litmus_script.specs.Machine.{IsNewMachine}
use Rattle.litmus_script.specs.Play.{IsOfRun, PlaysAll, PlaysUpTo}
use Rattle.litmus_script.specs.Script.{IsNotConfigured, IsSetUp}
use Rattle.litmus_text.specs.declared.fault.TextFault.{TextFault}
use Rattle.mshr_file.specs.Miss.{Bound}
use Rattle.protocol_tables.specs.Cache.{table_of as cache_table}
use Rattle.protocol_tables.specs.Directory.{table_of as directory_table}
use Rattle.slice_json.specs.Json.{json_of}
use Rattle.script_page.specs.Steps.{Steps}
use Rattle.script_page.specs.declared.frame.arrows.TheConstants.{ARROWS}
use Rattle.script_page.specs.declared.frame.controls.TheConstants.{STORY, TAIL}
use Rattle.script_page.specs.declared.frame.diagram.TheConstants.{DIAGRAM}
use Rattle.script_page.specs.declared.frame.focus.TheConstants.{FOCUS}
use Rattle.script_page.specs.declared.frame.guess.TheConstants.{GUESS}
use Rattle.script_page.specs.declared.frame.head.TheConstants.{BODY, HEAD}
use Rattle.script_page.specs.declared.frame.labels.TheConstants.{LABELS}
use Rattle.script_page.specs.declared.frame.lanes.TheConstants.{LANES}
use Rattle.script_page.specs.declared.frame.legend.TheConstants.{LEGEND}
use Rattle.script_page.specs.declared.frame.marks.TheConstants.{MARKS}
use Rattle.script_page.specs.declared.frame.place.TheConstants.{PLACE}
use Rattle.script_page.specs.declared.frame.run.TheConstants.{RUN}
use Rattle.script_page.specs.declared.frame.time.TheConstants.{TIME}
use Rattle.slice_core_spec.specs.Calls.{PartsView}

-- what is before the steps: the script itself, and the protocol's tables
abbrev pub text_of_begin : List ℕ → List ℕ
text_of_begin script =
    HEAD.now ++ (BODY.now ++ (codes "{\"script\":" ++ (json_of script ++ (codes ",\"cache\":"
    ++ (json_of (cache_table true) ++ (codes ",\"directory\":" ++ (json_of (directory_table true)
    ++ codes ",\"steps\":[\n")))))))

-- code that a page has only where it is asked for
abbrev pub code_if : Bool → List ℕ → List ℕ
code_if true code = code
code_if false code = []

-- the code of the diagram
unfoldable pub code_of_diagram : List ℕ
code_of_diagram =
    PLACE.now ++ (LABELS.now ++ (LANES.now ++ (ARROWS.now ++ (MARKS.now ++ (DIAGRAM.now ++ LEGEND.now)))))

-- the code of the page, whose answers may have to be guessed
unfoldable pub code_of_page : Bool → List ℕ
code_of_page guess =
    RUN.now ++ (TIME.now ++ (code_of_diagram ++ (FOCUS.now ++ (STORY.now ++ (code_if guess GUESS.now ++ TAIL.now)))))

-- .. and what follows the steps
abbrev pub text_of_end : Bool → List ℕ
text_of_end guess = codes "null]}\n" ++ code_of_page guess

-- The commands are played from these slices on, and the steps of each are written.
pub record HasSteps (guess : Bool) (config : Config) (commands : List (ℕ × List (List ℕ)))
    (start : List PartsView) (before after : Option (List ℕ)) : Type 0 where
  pub end : List PartsView
  pub last : Option (List ℕ)
  pub played : PlaysAll (Steps config) config commands start end before last
  pub ended : Appends last after (text_of_end guess)

-- .. on a new machine
pub record IsPageOf (guess : Bool) (script : List ℕ) (config : Config) (bound : Bound)
    (commands : List (ℕ × List (List ℕ))) (before after : Option (List ℕ)) : Type 0 where
  pub start : List PartsView
  pub fresh : IsNewMachine config bound start
  pub first : Option (List ℕ)
  pub begun : Appends before first (text_of_begin script)
  pub steps : HasSteps guess config commands start first after

-- A script's page. The page of an empty script has no steps.
abbrev pub IsPage : Bool → List ℕ → List (ℕ × List (List ℕ)) → Option (List ℕ) → Option (List ℕ) → Type 0
IsPage guess script all before after =
    ((all ≡ []) × (first : Option (List ℕ)) × Appends before first (text_of_begin script)
    × Appends first after (text_of_end guess))
    ⊎ ((config : Config) × (bound : Bound) × (commands : List (ℕ × List (List ℕ)))
    × IsSetUp all config bound commands × IsPageOf guess script config bound commands before after)

-- the commands are played up to one that can't be, from these slices on
pub record PageStopsAt (config : Config) (commands : List (ℕ × List (List ℕ))) (start : List PartsView)
    (fault : TextFault) : Type 0 where
  pub first : Option (List ℕ)
  pub last : Option (List ℕ)
  pub stopped : PlaysUpTo (Steps config) config commands start first last fault

-- why a page lacks a part of its script: as in scripts, or it couldn't be written
abbrev pub IsPageFault : List (ℕ × List (List ℕ)) → TextFault → Type 0
IsPageFault all fault =
    IsNotConfigured all fault ⊎ IsOfRun fault
    ⊎ ((config : Config) × (bound : Bound) × (commands : List (ℕ × List (List ℕ))) × (start : List PartsView)
    × IsSetUp all config bound commands × IsNewMachine config bound start × PageStopsAt config commands start fault)
