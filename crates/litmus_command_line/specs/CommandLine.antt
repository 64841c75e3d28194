-- What the program's words ask for, as `clap` reads them.
use Rattle.std.specs.Prelude.{◌≡◌, ℕ, Bool, true, false, List, [], Option, Some, None, IsSomeAnd, codes}
use Rattle.std.specs.Prelude.{◌||◌, is_some, unwrap_or}
use Rattle.std.specs.Option.{option_map, option_map_or}
use Rattle.std.specs.Str.{bytes_eq}
use Rattle.std.specs.Str.Parse.{digits_value, without_leading_plus}
use Rattle.clap.specs.Words.{App, Row, Text, all_of, first_of, one_of, subcommand_of}
use Rattle.litmus_command_line.specs.Subcommands.{IsLockup, word_of, word_of_form, word_of_number}
use Rattle.litmus_command_line.specs.declared.command_line.CommandLine.{CommandLine}
use Rattle.litmus_command_line.specs.declared.command_line.CommandLine.TheVariants as command_lines
use Rattle.litmus_command_line.specs.declared.export.ModelForm.TheVariants.{Murphi, Smt}
use Rattle.litmus_command_line.specs.declared.export.ModelCores.{ModelCores}
use Rattle.litmus_command_line.specs.declared.export.ModelCores.TheVariants.{Two, Three, Four}
use Rattle.litmus_command_line.specs.declared.form.ScheduleForm.{ScheduleForm}
use Rattle.litmus_command_line.specs.declared.form.ScheduleForm.TheVariants as schedule_forms
use Rattle.litmus_command_line.specs.declared.form.ScriptForm.{ScriptForm}
use Rattle.litmus_command_line.specs.declared.form.ScriptForm.TheVariants as script_forms
use Rattle.litmus_command_line.specs.declared.form.WhatIfForm.{WhatIfForm}
use Rattle.litmus_command_line.specs.declared.form.WhatIfForm.TheVariants as what_if_forms
use Rattle.litmus_command_line.specs.declared.table.TableFiles.{TableFiles}

-- the number of cores of a model
abbrev pub number_of : ModelCores → ℕ
number_of Two = 2
number_of Three = 3
number_of Four = 4

-- whether an option was given
abbrev pub is_given : Text → List Row → Bool
is_given name rows = option_map_or (λ text. bytes_eq text (codes "true")) (one_of name rows) false

-- this is the number that the option has
abbrev pub IsNumberOf : Text → List Row → ℕ → Type 0
IsNumberOf name rows n = IsSomeAnd (one_of name rows) (λ text. digits_value 10 (without_leading_plus text) ≡ n)

-- this is the number that the option was given, if it was given one
abbrev pub IsNumberIfGiven : Text → List Row → Option ℕ → Type 0
IsNumberIfGiven name rows None = first_of name rows ≡ None
IsNumberIfGiven name rows (Some n) = IsNumberOf name rows n

-- these options of `script` were given, and no other
abbrev pub AreGiven : List Row → (echo explain beside vcd from_murphi json coverage : Bool) → Type 0
AreGiven rows echo explain beside vcd from_murphi json coverage =
    (echo ≡ is_given (codes "echo") rows) × (explain ≡ is_given (codes "explain") rows)
    × (beside ≡ is_given (codes "beside") rows) × (vcd ≡ is_given (codes "vcd") rows)
    × (from_murphi ≡ is_given (codes "from-murphi") rows) × (json ≡ is_given (codes "json") rows)
    × (coverage ≡ is_given (codes "coverage") rows)

-- the options ask for this form, and none of them is left out of it
abbrev pub IsFormOf : List Row → ScriptForm → Type 0
IsFormOf rows (script_forms.Answers echo explain) = AreGiven rows echo explain false false false false false
IsFormOf rows (script_forms.Beside explain) = AreGiven rows false explain true false false false false
IsFormOf rows script_forms.Waves = AreGiven rows false false false true false false false
IsFormOf rows script_forms.Json = AreGiven rows false false false false false true false
IsFormOf rows script_forms.FromMurphi = AreGiven rows false false false false true false false
IsFormOf rows script_forms.Coverage = AreGiven rows false false false false false false true

-- these options of `walk` or `run` were given, and no other of them
abbrev pub AreScheduleGiven : List Row → (json script page coverage trace : Bool) → Type 0
AreScheduleGiven rows json script page coverage trace =
    (json ≡ is_given (codes "json") rows) × (script ≡ is_given (codes "script") rows)
    × (page ≡ is_given (codes "page") rows) × (coverage ≡ is_given (codes "coverage") rows)
    × (trace ≡ is_given (codes "trace") rows)

-- the options ask for this form of a schedule, and none of them is left out of it
abbrev pub IsScheduleFormOf : List Row → ScheduleForm → Type 0
IsScheduleFormOf rows (schedule_forms.Report json) = AreScheduleGiven rows json false false false false
IsScheduleFormOf rows schedule_forms.Script = AreScheduleGiven rows false true false false false
IsScheduleFormOf rows schedule_forms.Page = AreScheduleGiven rows false false true false false
IsScheduleFormOf rows schedule_forms.Coverage = AreScheduleGiven rows false false false true false
IsScheduleFormOf rows schedule_forms.Trace = AreScheduleGiven rows false false false false true

-- these options of `what-if` were given, and no other of them
abbrev pub AreWhatIfGiven : List Row → (json svg page : Bool) → Type 0
AreWhatIfGiven rows json svg page =
    (json ≡ is_given (codes "json") rows) × (svg ≡ is_given (codes "svg") rows) × (page ≡ is_given (codes "page") rows)

-- the options ask for this form of what breaks, and none of them is left out of it
abbrev pub IsWhatIfFormOf : List Row → WhatIfForm → Type 0
IsWhatIfFormOf rows what_if_forms.Text = AreWhatIfGiven rows false false false
IsWhatIfFormOf rows what_if_forms.Json = AreWhatIfGiven rows true false false
IsWhatIfFormOf rows what_if_forms.Svg = AreWhatIfGiven rows false true false
IsWhatIfFormOf rows what_if_forms.Page = AreWhatIfGiven rows false false true

-- parts are asked for, and no table
abbrev pub prints_parts : List Row → Bool
prints_parts rows = is_given (codes "part") rows || is_some (first_of (codes "resume") rows)

-- rows are asked for, and no report
abbrev pub is_swept : List Row → Bool
is_swept rows =
    is_given (codes "csv") rows || is_some (first_of (codes "set") rows) || is_some (first_of (codes "seeds") rows)

-- these are the files of tables that were named
abbrev pub AreTableFiles : List Row → TableFiles → Type 0
AreTableFiles rows files =
    (option_map (λ file. file.now) files.cache ≡ first_of (codes "cache") rows)
    × (option_map (λ file. file.now) files.directory ≡ first_of (codes "directory") rows)

-- whether any was
abbrev pub names_tables : List Row → Bool
names_tables rows = is_some (first_of (codes "cache") rows) || is_some (first_of (codes "directory") rows)

-- the subcommand of this name, with these values, is what the line holds
abbrev pub IsLine : Text → List Row → CommandLine → Type 0
IsLine name rows (command_lines.Script args) =
    (name ≡ codes "script") × (first_of (codes "FILE") rows ≡ Some args.file.now) × IsFormOf rows args.form
IsLine name rows command_lines.Coverage = name ≡ codes "coverage"
IsLine name rows (command_lines.Try args) =
    (name ≡ codes "try") × (option_map (λ f. f.now) args.file ≡ first_of (codes "FILE") rows)
IsLine name rows (command_lines.Chart args) =
    (name ≡ codes "chart") × (first_of (codes "FILE") rows ≡ Some args.file.now)
    × (args.svg ≡ is_given (codes "svg") rows) × IsNumberIfGiven (codes "line") rows args.line
IsLine name rows (command_lines.Page args) =
    (name ≡ codes "page") × (first_of (codes "FILE") rows ≡ Some args.file.now)
    × (args.guess ≡ is_given (codes "guess") rows)
IsLine name rows (command_lines.Litmus args) =
    (name ≡ codes "litmus") × (first_of (codes "FILE") rows ≡ Some args.file.now)
    × IsNumberOf (codes "seed") rows args.seed × IsNumberOf (codes "limit") rows args.limit
    × IsNumberIfGiven (codes "trace") rows args.trace × (args.json ≡ is_given (codes "json") rows)
    × (args.explain ≡ is_given (codes "explain") rows)
IsLine name rows (command_lines.Walk args) =
    (name ≡ codes "walk") × (first_of (codes "FILE") rows ≡ Some args.file.now)
    × IsNumberIfGiven (codes "rounds") rows args.rounds × IsNumberOf (codes "seed") rows args.seed
    × IsNumberIfGiven (codes "limit") rows args.limit × IsNumberIfGiven (codes "jobs") rows args.jobs
    × IsScheduleFormOf rows args.form × (args.explain ≡ is_given (codes "explain") rows)
    × (prints_parts rows ≡ false)
IsLine name rows (command_lines.Part args) =
    (name ≡ codes "walk") × (first_of (codes "FILE") rows ≡ Some args.file.now)
    × (option_map (λ f. f.now) args.resume ≡ first_of (codes "resume") rows)
    × IsNumberIfGiven (codes "rounds") rows args.rounds × IsNumberOf (codes "seed") rows args.seed
    × IsNumberIfGiven (codes "limit") rows args.limit × IsNumberIfGiven (codes "jobs") rows args.jobs
    × AreScheduleGiven rows false false false false false × (args.explain ≡ is_given (codes "explain") rows)
    × (prints_parts rows ≡ true)
IsLine name rows (command_lines.Merge args) =
    (name ≡ codes "merge") × (args.json ≡ is_given (codes "json") rows) × (args.mean ≡ is_given (codes "mean") rows)
IsLine name rows (command_lines.Run args) =
    (name ≡ codes "run") × (first_of (codes "FILE") rows ≡ Some args.file.now)
    × IsNumberIfGiven (codes "outstanding") rows args.outstanding
    × IsNumberIfGiven (codes "pace") rows args.pace
    × IsNumberOf (codes "seed") rows args.seed × IsScheduleFormOf rows args.form
    × (args.explain ≡ is_given (codes "explain") rows) × (is_swept rows ≡ false)
IsLine name rows (command_lines.Sweep args) =
    (name ≡ codes "run") × (first_of (codes "FILE") rows ≡ Some args.file.now)
    × IsNumberIfGiven (codes "outstanding") rows args.outstanding
    × IsNumberIfGiven (codes "pace") rows args.pace
    × IsNumberOf (codes "seed") rows args.seed
    × (option_map (λ s. s.now) args.seeds ≡ first_of (codes "seeds") rows) × (args.json ≡ is_given (codes "json") rows)
    × (is_swept rows ≡ true)
IsLine name rows (command_lines.Generate args) =
    (name ≡ codes "generate") × (first_of (codes "NAME") rows ≡ Some args.name.now)
    × IsNumberOf (codes "cores") rows args.cores × IsNumberOf (codes "size") rows args.size
    × IsNumberOf (codes "seed") rows args.seed
IsLine name rows (command_lines.Test args) =
    (name ≡ codes "test") × (first_of (codes "FILE") rows ≡ Some args.file.now)
    × (args.first ≡ is_given (codes "first") rows) × (args.explain ≡ is_given (codes "explain") rows)
IsLine name rows (command_lines.Check args) =
    (name ≡ codes "check") × (first_of (codes "FILE") rows ≡ Some args.file.now)
    × (args.json ≡ is_given (codes "json") rows) × (args.explain ≡ is_given (codes "explain") rows)
IsLine name rows (command_lines.Judge args) =
    (name ≡ codes "judge") × (first_of (codes "FILE") rows ≡ Some args.file.now)
    × IsNumberOf (codes "limit") rows args.limit × (args.line ≡ is_given (codes "line") rows)
    × IsNumberIfGiven (codes "witness") rows args.witness × (args.json ≡ is_given (codes "json") rows)
    × (args.explain ≡ is_given (codes "explain") rows)
IsLine name rows (command_lines.Table args) =
    (name ≡ codes "table") × (first_of (codes "TABLE") rows ≡ Some (word_of args.table))
    × (args.exclusive ≡ is_given (codes "exclusive") rows) × (args.json ≡ is_given (codes "json") rows)
IsLine name rows (command_lines.WhatIf args) =
    (name ≡ codes "what-if") × AreTableFiles rows args.tables
    × IsNumberOf (codes "cores") rows args.cores × IsNumberOf (codes "rounds") rows args.rounds
    × IsNumberOf (codes "states") rows args.states × IsNumberOf (codes "seed") rows args.seed
    × (args.exclusive ≡ is_given (codes "exclusive") rows) × IsWhatIfFormOf rows args.form
    × (option_map (λ t. t.now) args.trace ≡ first_of (codes "from-murphi") rows)
IsLine name rows (command_lines.Export args) =
    (name ≡ codes "export") × (first_of (codes "FORM") rows ≡ Some (word_of_form Murphi))
    × AreTableFiles rows args.tables × (first_of (codes "cores") rows ≡ Some (word_of_number args.cores))
    × (args.exclusive ≡ is_given (codes "exclusive") rows) × (args.closed ≡ is_given (codes "closed") rows)
IsLine name rows (command_lines.Queries args) =
    (name ≡ codes "export") × (first_of (codes "FORM") rows ≡ Some (word_of_form Smt))
    × (args.exclusive ≡ is_given (codes "exclusive") rows)
    × (is_some (first_of (codes "cores") rows) ≡ false) × (is_given (codes "closed") rows ≡ false)
    × (names_tables rows ≡ false)

-- the subcommand that was read is what the line holds
abbrev pub IsAsked : Option (Text × List Row) → CommandLine → Type 0
IsAsked read line = IsSomeAnd read (λ p. IsLine p.0 p.1 line)

-- the line is what the program's words ask for
abbrev pub IsRead : List Text → CommandLine → Type 0
IsRead words line = (app : App) × IsLockup app × IsAsked (subcommand_of app words) line

-- all texts that an argument or option of this name was given
abbrev pub texts_of : Text → List Row → List Text
texts_of name rows = unwrap_or (all_of name rows) []

abbrev pub texts_in : Text → Option (Text × List Row) → List Text
texts_in name None = []
texts_in name (Some read) = texts_of name read.1

-- .. among the program's words
abbrev pub AreTexts : Text → List Text → List Text → Type 0
AreTexts name words texts = (app : App) × IsLockup app × (texts ≡ texts_in name (subcommand_of app words))
