use Rattle.std.proofs.Common.{◌≡◌, ◌≢◌, ◌++◌, ◌∙◌, [], rules, subst, sym}
use Rattle.std.proofs.lemmas.Result.{on_ok_weaker}
use Rattle.program_run.specs.Kept.{Knows}
use Rattle.program_run.specs.Run.{RunnerView, asks_of, deliveries_of, or_else, owed_from}
use Rattle.program_run.proofs.OwedLemmas.{or_else_some}
use Rattle.program_run.proofs.runner.Runner.list_moves.Goals as goal

pub list_owed-requires-clause-kept : goal.list_owed-requires-clause-kept
list_owed-requires-clause-kept c =
    subst (λ (runner : RunnerView). Knows runner.config runner.slices c.args.kept.now) (sym c.self.view_is) c.requires

pub returns-then-not-is_none-clause-moves : goal.returns-then-not-is_none-clause-moves
returns-then-not-is_none-clause-moves c =
    let some : c.list_owed.new.moves.items ≢ [] = search rules in
    subst (λ (runner : RunnerView). c.list_owed.new.moves.items ≡ or_else (owed_from c.args.owed.now 0 runner.slices)
    (asks_of runner.config c.args.programs.now runner.slices runner.places ++ deliveries_of runner.slices)) c.self.view_is
    (c.in_ok-list_owed.ensures.moves
    ∙ sym (or_else_some _ _ (λ none. some (c.in_ok-list_owed.ensures.moves ∙ none))))

pub returns-clause-moves : goal.returns-clause-moves
returns-clause-moves c =
    let none : c.list_owed.new.moves.items ≡ [] = search rules in
    let owed = sym c.in_ok-list_owed.ensures.moves ∙ none in
    on_ok_weaker c.list_moves.result
    (λ listed. subst (λ (runner : RunnerView). c.list_moves.new.moves.items
    ≡ or_else (owed_from c.args.owed.now 0 runner.slices)
    (asks_of runner.config c.args.programs.now runner.slices runner.places ++ deliveries_of runner.slices))
    c.self.view_is
    (rw owed listed))
    (rw (c.as_slice-2.ensures.value, none) at c.list_moves.ensures.moves)
