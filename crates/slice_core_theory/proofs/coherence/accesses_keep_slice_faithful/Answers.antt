use Rattle.slice_core_theory.proofs.BlocksCalls.{faithful_evicted, faithful_handed, faithful_issue}
use Rattle.slice_core_theory.proofs.coherence.accesses_keep_slice_faithful.Goals as goal

pub returns : goal.returns
returns c = record {
  issue = λ old new core request answer whole addressed known all.
      faithful_issue old core request answer new whole addressed known all;
  evict = λ old new core line answer whole addressed known all.
      faithful_evicted old core line answer new whole addressed known all;
  hand = λ old new core answer known all. faithful_handed old core answer new known all;
}
