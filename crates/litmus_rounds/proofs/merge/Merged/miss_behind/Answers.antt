use Rattle.std.proofs.lemmas.Result.{on_ok_weaker}
use Rattle.litmus_rounds.proofs.MergeLemmas.{merge_missed}
use Rattle.litmus_rounds.proofs.merge.Merged.miss_behind.Goals as goal

pub returns : goal.returns
returns c = on_ok_weaker c.miss_to.result (λ misses parts is. merge_missed parts _ _ _ is misses) c.miss_to.ensures
