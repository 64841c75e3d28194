use Rattle.std.proofs.Common.{◌≡◌, length, arith}
use Rattle.std.proofs.lemmas.List.{length-map}
use Rattle.std.proofs.lemmas.Bool.Decides.{nat_tests}
use Rattle.litmus_text.specs.declared.row.TheConstants.{MOST_WORDS}
use Rattle.litmus_text.proofs.RowLemmas.{row_of_few, row_when_full}
use Rattle.litmus_text.proofs.row.fill_word_by_word.Goals as goal

pub returns-in-None : goal.returns-in-None
returns-in-None c =
    row_of_few _ c.loop-word.word-iterator _ MOST_WORDS c.loop-word.invariant.all c.in-None.ensures.steps.0
    (rw length-map c.loop-word.invariant.few)

pub returns-then-is_full : goal.returns-then-is_full
returns-then-is_full c =
    let full : length c.loop-word.row.items ≡ MOST_WORDS = grind (arith, nat_tests) in
    row_when_full _ c.loop-word.word-iterator _ MOST_WORDS c.loop-word.invariant.all (rw length-map full)
