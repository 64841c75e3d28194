use Rattle.std.proofs.lemmas.Result.{on_ok_weaker}
use Rattle.litmus_rounds.proofs.PieceLemmas.{four_pieces}
use Rattle.litmus_rounds.proofs.part_form.push_walk.Goals as goal

pub returns : goal.returns
returns c =
    on_ok_weaker c.push_limit.result
    (λ last. four_pieces c.args.out.now.items _ _ _ _ _ _ _ _ c.in_ok-push_opening.ensures
    c.in_ok-push_number.ensures c.in_ok-extend_from_slice.ensures.items last)
    c.push_limit.ensures
