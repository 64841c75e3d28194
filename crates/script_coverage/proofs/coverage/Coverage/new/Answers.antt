use Rattle.std.proofs.Common.{◌∙◌, ◌+◌, ◌++◌, ◌∷◌, [], ℕ, List, ap, drop, map}
use Rattle.std.specs.Prelude.{Option}
use Rattle.script_coverage.specs.Counts.{listed}
use Rattle.script_coverage.specs.declared.cells.TheConstants.{CELLS}
use Rattle.script_coverage.proofs.Lists.{made_all, made_more}
use Rattle.script_coverage.proofs.coverage.Coverage.new.Goals as goal

pub loop-cell-preserved : goal.loop-cell-preserved
loop-cell-preserved c =
    let left = map (listed c.args.exclusive) (drop (c.loop-cell.cell-index + 1) CELLS) in
    ap (λ (now : List (Option ℕ)). now ++ left)
    (c.in_ok-push.ensures.items ∙ ap (λ (count : Option ℕ). c.loop-cell.counts.items ++ count ∷ []) c.listed.ensures)
    ∙ made_more (listed c.args.exclusive) CELLS c.loop-cell.cell-index c.loop-cell.counts.items _ _
    c.loop-cell-test.true c.loop-cell.invariant

pub returns : goal.returns
returns c = made_all (listed c.args.exclusive) CELLS c.loop-cell.cell-index _ _ c.loop-cell-test.false c.loop-cell.invariant
