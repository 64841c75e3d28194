-- What the program is with one more subcommand.
use Rattle.std.proofs.Common.{◌≡◌, ◌∙◌, ◌+◌, ◌&&◌, ◌==◌, Bool, ℕ, zero, suc, List, length, true, false, arith, not, sym}
use Rattle.std.proofs.Common.{ap, ap₂, length-append}
use Rattle.std.proofs.Math.Bool.{and-true}
use Rattle.std.proofs.lemmas.Bool.{ne_eqb}
use Rattle.std.specs.Prelude.{IfOk, IsOkAnd, Result, Ok, Err}
use Rattle.std.specs.Borrow.{Bor}
use Rattle.clap.specs.Adds.{AddsConflicts}
use Rattle.clap.specs.Walk.{is_empty, is_free_arg}
use Rattle.clap.specs.declared.builder.arg.Arg.{Arg}
use Rattle.clap.specs.declared.builder.command.Command.{Command}
use Rattle.clap.specs.Words.{App, Rule, Text, app_of, rule_of, with_subcommand}
use Rattle.litmus_command_line.specs.Parameters.{HasRule}
use Rattle.litmus_command_line.specs.Subcommands.{IsExport, IsLockup, IsTable, IsTablesProgram, IsWith, Reads}
use Rattle.litmus_command_line.specs.Subcommands.{table_app, table_program}

-- the program with a subcommand that is known
pub with_known : {E : Type 0} (program made result : Result Command E) (before known : App)
    → IfOk program (λ old. app_of old ≡ before) → IfOk made (Reads known)
    → IfOk result (λ new. IsOkAnd program (λ old. IsOkAnd made (λ sub. IsWith (app_of old) sub (app_of new))))
    → IfOk result (λ new. app_of new ≡ with_subcommand before known.top)
with_known (Ok program) (Ok sub) (Ok new) before known is reads added =
    added reads.1 ∙ ap₂ with_subcommand is (ap (λ (a : App). a.top) reads.0)
with_known (Ok program) (Err e) (Ok new) before known is reads added = absurd added
with_known (Err e) made (Ok new) before known is reads added = absurd added
with_known program made (Err e) before known is reads added = tt

-- the program with the subcommand that prints a table
pub with_table : {E : Type 0} (program made result : Result Command E) (before : App)
    → ((names : Bor (List (Bor Text))) → table_program names ≡ with_subcommand before (table_app names).top)
    → IfOk program (λ old. app_of old ≡ before) → IfOk made IsTable
    → IfOk result (λ new. IsOkAnd program (λ old. IsOkAnd made (λ sub. IsWith (app_of old) sub (app_of new))))
    → IfOk result (λ new. IsTablesProgram (app_of new))
with_table (Ok program) (Ok sub) (Ok new) before whole is table added = record {
  names = table.names;
  words = table.words;
  is = added table.reads.1 ∙ ap₂ with_subcommand is (ap (λ (a : App). a.top) table.reads.0) ∙ sym (whole table.names);
}
with_table (Ok program) (Err e) (Ok new) before whole is table added = absurd added
with_table (Err e) made (Ok new) before whole is table added = absurd added
with_table program made (Err e) before whole is table added = tt

-- the program is whole with the subcommand that prints a model
pub with_export : {E : Type 0} (program made result : Result Command E)
    → IfOk program (λ old. IsTablesProgram (app_of old)) → IfOk made IsExport
    → IfOk result (λ new. IsOkAnd program (λ old. IsOkAnd made (λ sub. IsWith (app_of old) sub (app_of new))))
    → IfOk result (λ new. IsLockup (app_of new))
with_export (Ok program) (Ok sub) (Ok new) is export added = record {
  names = is.names;
  forms = export.forms;
  numbers = export.numbers;
  words = is.words;
  form_words = export.form_words;
  number_words = export.number_words;
  is = added export.reads.1 ∙ ap₂ with_subcommand is.is (ap (λ (a : App). a.top) export.reads.0);
}
with_export (Ok program) (Err e) (Ok new) is export added = absurd added
with_export (Err e) made (Ok new) is export added = absurd added
with_export program made (Err e) is export added = tt

-- an option on which nothing else depends is free while there is nothing that it conflicts with
free-with : (alone rest : Bool) (had ids both : ℕ) → both ≡ had + ids → (alone && (had == 0 && rest)) ≡ true
    → (alone && (both == 0 && rest)) ≡ (ids == 0)
free-with false rest had ids both sum is = cc (is)
free-with true false zero ids both sum is = cc (is)
free-with true true zero ids both sum is =
    let same : both ≡ ids = omega (arith, sum) in
    rw same (and-true (ids == 0))
free-with true rest (suc had) ids both sum is =
    let some : (suc had == 0) ≡ false = ne_eqb _ _ (λ none. omega (arith, none)) in
    cc (is, some)

-- an option that conflicts with some others has a rule on them
pub rule-conflicting : (rule : Rule) (old new : Arg) (ids : List (Bor Text)) → rule.is_free ≡ true
    → HasRule rule old → AddsConflicts old new ids → HasRule (record rule { is_free = is_empty ids }) new
rule-conflicting rule old new ids free has adds =
    let was : is_free_arg old ≡ true = ap (λ (r : Rule). r.is_free) has.0 ∙ free in
    let count : length new.conflicts.items ≡ length old.conflicts.items + length ids =
    ap length adds.1 ∙ length-append old.conflicts.items ids in
    let is : is_free_arg (record old { conflicts = new.conflicts }) ≡ is_empty ids =
    free-with (not old.exclusive) _ (length old.conflicts.items) (length ids) _ count was in (
      ap rule_of adds.0 ∙ ap₂ (λ (r : Rule) (f : Bool). record r { is_free = f }) has.0 is,
      ap (λ (a : Arg). a.global) adds.0 ∙ has.1,
    )
