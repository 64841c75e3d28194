use Rattle.std.proofs.lemmas.Result.{on_ok_weaker}
use Rattle.litmus_rounds.proofs.PieceLemmas.{four_pieces}
use Rattle.litmus_rounds.proofs.part_form.push_opening.Goals as goal

pub returns : goal.returns
returns c =
    on_ok_weaker c.push_word-4.result
    (λ last. four_pieces c.args.out.now.items _ _ _ _ _ _ _ _ c.in_ok-push_word.ensures
    c.in_ok-push_word-2.ensures c.in_ok-push_word-3.ensures last)
    c.push_word-4.ensures
