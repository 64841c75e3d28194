use Rattle.std.proofs.Common.{rules, ◌≡◌, ◌∙◌, arith, Some, slice_get, sym}
use Rattle.script_coverage.proofs.Lists.{found_at, here_is, none_behind, none_up_to}
use Rattle.script_coverage.specs.declared.cells.TheConstants.{CELLS}
use Rattle.script_coverage.proofs.table_cell.Cell.number.Goals as goal

pub returns-then-is-clause-found : goal.returns-then-is-clause-found
returns-then-is-clause-found c =
    found_at CELLS c.loop-number.number c.args.self _ c.loop-number-test.true (c.is.ensures.0 c.if-is.true)

pub loop-number-preserved : goal.loop-number-preserved
loop-number-preserved c =
    none_up_to (λ k. slice_get CELLS k ≡ Some c.args.self) c.loop-number.number c.loop-number.invariant
    (λ same.
    let found = c.is.ensures.1 (here_is CELLS c.loop-number.number c.args.self _ same) in
    let differ = sym c.if-is.false ∙ found in
    search rules)

pub returns-clause-none : goal.returns-clause-none
returns-clause-none c number same =
    c.loop-number.invariant number
    (let below = none_behind CELLS number c.args.self same in let end = c.loop-number-test.false in omega arith) same
