use Rattle.litmus_rounds.proofs.MergeLemmas.{merge_next}
use Rattle.litmus_rounds.proofs.merge.Merged.add.Goals as goal

pub returns : goal.returns
returns c = λ parts is.
    merge_next parts c.args.filed.now.part _ _ _ _ is c.in_ok-from.ensures c.in_ok-miss_to.ensures c.in_ok-add_rounds.ensures
