use Rattle.std.proofs.Common.{◌≡◌, ◌∙◌, ℕ, List, Option, ap, arith, subst}
use Rattle.std.proofs.lemmas.Result.{err_from_is_err_and}
use Rattle.std.specs.Prelude.{unwrap_or}
use Rattle.script_coverage.specs.Counts.{IsTooOften, counted, had, sums}
use Rattle.script_coverage.proofs.Sums.{had_next, summed_all, summed_more, summed_past}
use Rattle.script_coverage.proofs.coverage.Coverage.add_all.Goals as goal
use Rattle.script_coverage.proofs.coverage.Coverage.add_all.Goals.{in-None, in-Some+in_ok-add-in-Some}

pub returns-in_err-add-in-Some-clause-full : goal.returns-in_err-add-in-Some-clause-full
returns-in_err-add-in-Some-clause-full c =
    let p = err_from_is_err_and c.from_residual.result c.from_residual.ensures.1 in
    let cell = c.loop-cell.cell in
    let counts = c.as_slice-counts.result.now in
    let here : had c.loop-cell.self cell ≡ had c.args.self.now cell =
    ap (λ (all : List (Option ℕ)). had all cell) c.loop-cell.invariant ∙ had_next cell c.args.self.now counts in
    let times : had counts cell ≡ c.in-Some.times = ap (λ (count : Option ℕ). unwrap_or count 0) c.in-Some.is in
    let full : IsTooOften c.args.self.now counts c.add.new.self = record {
      cell = cell;
      over = omega (arith, c.in_err-add-in-Some.ensures.full, here, times);
      before = c.in_err-add-in-Some.ensures.same ∙ c.loop-cell.invariant;
    } in
    rw p.1
    (subst (λ more. IsTooOften c.args.self.now more c.add.new.self) (c.as_slice-counts.ensures.value ∙ c.other.view_is)
    full)

pub loop-cell-preserved : goal.loop-cell-preserved
loop-cell-preserved c =
    let counts = c.as_slice-counts.result.now in
    elim c.match-counts-cell.branch [
      | in-Some+in_ok-add-in-Some w ↦
          w.self-is ∙ w.in_ok-add-in-Some.ensures.added
          ∙ ap (λ (all : List (Option ℕ)). counted all c.loop-cell.cell w.in-Some.times) c.loop-cell.invariant
          ∙ summed_more c.loop-cell.cell w.in-Some.times c.args.self.now counts _ c.loop-cell-test.true w.in-Some.is
      | in-None w ↦
          w.self-is ∙ c.loop-cell.invariant
          ∙ summed_past c.loop-cell.cell c.args.self.now counts _ c.loop-cell-test.true w.in-None.is
    ]

pub returns-clause-added : goal.returns-clause-added
returns-clause-added c =
    c.loop-cell.invariant
    ∙ summed_all c.loop-cell.cell c.args.self.now c.as_slice-counts.result.now c.loop-cell-test.false
    ∙ ap (sums c.args.self.now) (c.as_slice-counts.ensures.value ∙ c.other.view_is)
