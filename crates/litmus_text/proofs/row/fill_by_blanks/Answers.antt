use Rattle.std.proofs.Common.{◌≡◌, length, map, arith}
use Rattle.std.proofs.lemmas.List.{length-map}
use Rattle.std.proofs.lemmas.Bool.Decides.{nat_tests}
use Rattle.litmus_text.specs.declared.row.TheConstants.{MOST_WORDS}
use Rattle.litmus_text.proofs.RowLemmas.{row_of_few, row_when_full}
use Rattle.litmus_text.proofs.BlankLemmas.{row_goes_on, words_behind}
use Rattle.litmus_text.proofs.row.fill_by_blanks.Goals as goal

pub loop-at-preserved : goal.loop-at-preserved
loop-at-preserved c =
    let goes_on = row_goes_on (map (λ w. w.now) c.loop-at.row.items) c.args.line.now c.loop-at.at c.part_end-end.result
    c.part_end-end.ensures.part c.loop-at.invariant.all in
    record { all = rw c.push_part.ensures.items goes_on; few = c.push_part.ensures.few }

pub returns-then-is_full : goal.returns-then-is_full
returns-then-is_full c =
    let full : length c.loop-at.row.items ≡ MOST_WORDS = grind (arith, nat_tests) in
    row_when_full _ _ _ MOST_WORDS c.loop-at.invariant.all (rw length-map full)

pub returns-after-loop-at : goal.returns-after-loop-at
returns-after-loop-at c =
    row_of_few _ _ _ MOST_WORDS c.loop-at.invariant.all (words_behind c.args.line.now c.loop-at.at (omega arith))
    (rw length-map c.loop-at.invariant.few)
