use Rattle.std.proofs.Common.{◌∙◌, ◌∷◌, [], arith, rules, sym}
use Rattle.script_coverage.specs.Read.{IsCell}
use Rattle.script_coverage.specs.declared.cells.TheConstants.{CELLS}
use Rattle.script_coverage.proofs.Lists.{none_behind, none_up_to}
use Rattle.script_coverage.proofs.Reading.{cell_at, names_at}
use Rattle.script_coverage.proofs.read.Names.number.Goals as goal

pub returns-then-are_of-clause-found : goal.returns-then-are_of-clause-found
returns-then-are_of-clause-found c =
    cell_at _ c.loop-number.number _ c.loop-number-test.true (c.are_of.ensures.0 c.if-are_of.true)

pub loop-number-preserved : goal.loop-number-preserved
loop-number-preserved c =
    let names = c.args.self.now in
    none_up_to (IsCell (names.table.now ∷ names.state.now ∷ names.event.now ∷ names.outcome.now ∷ []))
    c.loop-number.number c.loop-number.invariant
    (λ found.
    let differ = sym c.if-are_of.false ∙ c.are_of.ensures.1 (names_at _ c.loop-number.number _ found) in
    search rules)

pub returns-clause-none : goal.returns-clause-none
returns-clause-none c number found =
    c.loop-number.invariant number
    (let below = none_behind CELLS number found.cell found.is in let end = c.loop-number-test.false in omega arith) found
