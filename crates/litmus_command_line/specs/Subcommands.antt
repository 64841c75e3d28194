-- The program's subcommands, with their arguments and options, as `clap` reads them.
use Rattle.std.specs.Prelude.{◌≡◌, true, false, List, [], ◌∷◌, map, codes}
use Rattle.std.specs.Borrow.{Bor}
use Rattle.clap.specs.declared.builder.command.Command.{Command}
use Rattle.clap.specs.declared.builder.command.Command.TheViews.{out-Command as fields_of}
use Rattle.clap.specs.Words.{App, Rule, Text, app_of, new_app, new_rule, with_rule, with_subcommand}
use Rattle.litmus_command_line.specs.Parameters.{argument_rule, choice_rule, few_or_none_rule, few_rule, few_rule_or}
use Rattle.litmus_command_line.specs.Parameters.{flag_rule, lone_rule, lone_text_rule, number_rule, number_rule_or}
use Rattle.litmus_command_line.specs.Parameters.{positive_rule, settings_rule, several_rule, text_rule, word_rule}
use Rattle.litmus_command_line.specs.declared.export.ModelCores.{ModelCores}
use Rattle.litmus_command_line.specs.declared.export.ModelCores.TheVariants.{Two, Three, Four}
use Rattle.litmus_command_line.specs.declared.export.ModelForm.{ModelForm}
use Rattle.litmus_command_line.specs.declared.export.ModelForm.TheVariants.{Murphi, Smt}
use Rattle.litmus_command_line.specs.declared.table.Table.{Table}
use Rattle.litmus_command_line.specs.declared.table.Table.TheVariants.{Cache, Directory}

-- the command with these arguments and options too
abbrev pub with_rules : App → List Rule → App
with_rules app [] = app
with_rules app (rule ∷ rules) = with_rules (with_rule app rule) rules

-- the subcommand that runs a script
abbrev pub script_app : App
script_app =
    with_rules (new_app (codes "script"))
    (argument_rule (codes "FILE") ∷ flag_rule (codes "echo") ∷ flag_rule (codes "explain") ∷ lone_rule (codes "beside")
    ∷ lone_rule (codes "vcd") ∷ lone_rule (codes "from-murphi") ∷ lone_rule (codes "json")
    ∷ lone_rule (codes "coverage") ∷ [])

-- the subcommand that adds the counts of runs of scripts
abbrev pub coverage_app : App
coverage_app = with_rules (new_app (codes "coverage")) (several_rule (codes "FILE") ∷ [])

-- the subcommand that answers a script's lines one by one, after a text that may be left out
abbrev pub try_app : App
try_app = with_rules (new_app (codes "try")) (new_rule (codes "FILE") ∷ [])

-- the subcommand that draws the run of a script
abbrev pub chart_app : App
chart_app =
    with_rules (new_app (codes "chart"))
    (argument_rule (codes "FILE") ∷ flag_rule (codes "svg") ∷ number_rule (codes "line") ∷ [])

-- the subcommand that writes it as a page
abbrev pub page_app : App
page_app = with_rules (new_app (codes "page")) (argument_rule (codes "FILE") ∷ flag_rule (codes "guess") ∷ [])

-- the subcommand that runs a litmus test over threads
abbrev pub litmus_app : App
litmus_app =
    with_rules (new_app (codes "litmus"))
    (argument_rule (codes "FILE") ∷ number_rule_or (codes "seed") (codes "1")
    ∷ number_rule_or (codes "limit") (codes "1000000") ∷ number_rule (codes "trace") ∷ lone_rule (codes "json")
    ∷ flag_rule (codes "explain") ∷ [])

-- the subcommand that runs one on random schedules, or prints a schedule, or a part of such rounds
abbrev pub walk_app : App
walk_app =
    with_rules (new_app (codes "walk"))
    (argument_rule (codes "FILE") ∷ positive_rule (codes "rounds") ∷ number_rule_or (codes "seed") (codes "1")
    ∷ positive_rule (codes "limit") ∷ positive_rule (codes "jobs") ∷ lone_rule (codes "script")
    ∷ lone_rule (codes "page") ∷ lone_rule (codes "coverage") ∷ lone_rule (codes "trace") ∷ lone_rule (codes "part")
    ∷ lone_text_rule (codes "resume") ∷ lone_rule (codes "json") ∷ flag_rule (codes "explain") ∷ [])

-- the subcommand that joins parts of a walk, or rows
abbrev pub merge_app : App
merge_app =
    with_rules (new_app (codes "merge"))
    (several_rule (codes "FILE") ∷ flag_rule (codes "json") ∷ flag_rule (codes "mean") ∷ [])

-- the subcommand that runs programs
abbrev pub run_app : App
run_app =
    with_rules (new_app (codes "run"))
    (argument_rule (codes "FILE") ∷ few_rule (codes "outstanding") ∷ few_or_none_rule (codes "pace")
    ∷ number_rule_or (codes "seed") (codes "1") ∷ flag_rule (codes "json") ∷ settings_rule (codes "set")
    ∷ lone_text_rule (codes "seeds") ∷ lone_rule (codes "csv") ∷ lone_rule (codes "script") ∷ lone_rule (codes "page")
    ∷ lone_rule (codes "coverage") ∷ lone_rule (codes "trace") ∷ lone_rule (codes "explain") ∷ [])

-- the subcommand that prints a workload's programs
abbrev pub generate_app : App
generate_app =
    with_rules (new_app (codes "generate"))
    (argument_rule (codes "NAME") ∷ number_rule_or (codes "cores") (codes "4")
    ∷ number_rule_or (codes "size") (codes "16") ∷ number_rule_or (codes "seed") (codes "1") ∷ [])

-- the subcommand that tests a script
abbrev pub test_app : App
test_app =
    with_rules (new_app (codes "test"))
    (argument_rule (codes "FILE") ∷ flag_rule (codes "first") ∷ flag_rule (codes "explain") ∷ [])

-- the subcommand that judges a trace
abbrev pub check_app : App
check_app =
    with_rules (new_app (codes "check"))
    (argument_rule (codes "FILE") ∷ flag_rule (codes "json") ∷ flag_rule (codes "explain") ∷ [])

-- the subcommand that judges one as histories
abbrev pub judge_app : App
judge_app =
    with_rules (new_app (codes "judge"))
    (argument_rule (codes "FILE") ∷ number_rule_or (codes "limit") (codes "1000000") ∷ flag_rule (codes "line")
    ∷ number_rule (codes "witness") ∷ lone_rule (codes "json") ∷ flag_rule (codes "explain") ∷ [])

-- the subcommand that prints one of these tables
abbrev pub table_app : Bor (List (Bor Text)) → App
table_app names =
    with_rules (new_app (codes "table"))
    (word_rule (codes "TABLE") names ∷ flag_rule (codes "exclusive") ∷ flag_rule (codes "json") ∷ [])

-- the subcommand that plays a line under changed tables
abbrev pub what_if_app : App
what_if_app =
    with_rules (new_app (codes "what-if"))
    (text_rule (codes "cache") ∷ text_rule (codes "directory") ∷ few_rule_or (codes "cores") (codes "3")
    ∷ number_rule_or (codes "states") (codes "100000") ∷ number_rule_or (codes "rounds") (codes "10000")
    ∷ number_rule_or (codes "seed") (codes "1") ∷ lone_text_rule (codes "from-murphi") ∷ flag_rule (codes "exclusive")
    ∷ flag_rule (codes "json") ∷ lone_rule (codes "svg") ∷ lone_rule (codes "page") ∷ [])

-- the subcommand that prints a model in one of these forms, of one of these numbers of cores
abbrev pub export_app : Bor (List (Bor Text)) → Bor (List (Bor Text)) → App
export_app forms numbers =
    with_rules (new_app (codes "export"))
    (word_rule (codes "FORM") forms ∷ choice_rule (codes "cores") numbers ∷ flag_rule (codes "exclusive")
    ∷ flag_rule (codes "closed") ∷ text_rule (codes "cache") ∷ text_rule (codes "directory") ∷ [])

-- the program itself, which requires a subcommand
abbrev pub top_app : App
top_app = record (new_app (codes "lockup")) {
  top = record (new_app (codes "lockup")).top { subcommand_required = true; has_version = true };
}

-- the subcommand reads these arguments and options, and passes none on
abbrev pub Reads : App → Command → Type 0
Reads app command = (app_of command ≡ app) × ((fields_of command).has_globals ≡ false)

-- this is the program with one more subcommand
abbrev pub IsWith : App → Command → App → Type 0
IsWith program sub app = (fields_of sub).has_globals ≡ false → app ≡ with_subcommand program (app_of sub).top

-- the program with its subcommands
abbrev pub table_program : Bor (List (Bor Text)) → App
table_program names =
    with_subcommand
    (with_subcommand
    (with_subcommand
    (with_subcommand
    (with_subcommand
    (with_subcommand
    (with_subcommand
    (with_subcommand
    (with_subcommand
    (with_subcommand
    (with_subcommand
    (with_subcommand
    (with_subcommand
    (with_subcommand (with_subcommand top_app script_app.top) coverage_app.top)
    try_app.top)
    chart_app.top)
    page_app.top)
    litmus_app.top)
    walk_app.top)
    merge_app.top)
    run_app.top)
    generate_app.top)
    test_app.top)
    check_app.top)
    judge_app.top)
    what_if_app.top)
    (table_app names).top

abbrev pub lockup_app : Bor (List (Bor Text)) → Bor (List (Bor Text)) → Bor (List (Bor Text)) → App
lockup_app names forms numbers = with_subcommand (table_program names) (export_app forms numbers).top

-- the word that names a table
abbrev pub word_of : Table → Text
word_of Cache = codes "cache"
word_of Directory = codes "directory"

-- these are the names of the tables, wherever they lie in memory
abbrev pub AreTables : Bor (List (Bor Text)) → Type 0
AreTables names = map (λ name. name.now) names.now ≡ word_of Cache ∷ word_of Directory ∷ []

-- the word that names a form of model
abbrev pub word_of_form : ModelForm → Text
word_of_form Murphi = codes "murphi"
word_of_form Smt = codes "smt"

-- these are the forms of a model, and the numbers of its cores, wherever they lie in memory
abbrev pub AreForms : Bor (List (Bor Text)) → Type 0
AreForms names = map (λ name. name.now) names.now ≡ word_of_form Murphi ∷ word_of_form Smt ∷ []

abbrev pub word_of_number : ModelCores → Text
word_of_number Two = codes "2"
word_of_number Three = codes "3"
word_of_number Four = codes "4"

abbrev pub AreNumbers : Bor (List (Bor Text)) → Type 0
AreNumbers names =
    map (λ name. name.now) names.now ≡ word_of_number Two ∷ word_of_number Three ∷ word_of_number Four ∷ []

-- the subcommand that prints a table
pub record IsTable (command : Command) : Type 0 where
  pub names : Bor (List (Bor Text))
  pub words : AreTables names
  pub reads : Reads (table_app names) command

-- the subcommand that prints a model
pub record IsExport (command : Command) : Type 0 where
  pub forms : Bor (List (Bor Text))
  pub numbers : Bor (List (Bor Text))
  pub form_words : AreForms forms
  pub number_words : AreNumbers numbers
  pub reads : Reads (export_app forms numbers) command

-- the program with all but the last of its subcommands
pub record IsTablesProgram (app : App) : Type 0 where
  pub names : Bor (List (Bor Text))
  pub words : AreTables names
  pub is : app ≡ table_program names

-- the program
pub record IsLockup (app : App) : Type 0 where
  pub names : Bor (List (Bor Text))
  pub forms : Bor (List (Bor Text))
  pub numbers : Bor (List (Bor Text))
  pub words : AreTables names
  pub form_words : AreForms forms
  pub number_words : AreNumbers numbers
  pub is : app ≡ lockup_app names forms numbers
