use Rattle.slice_core_theory.proofs.Calls.{reached_evicted, reached_handed, reached_issue}
use Rattle.slice_core_theory.proofs.coherence.accesses_keep_lines_reached.Goals as goal

pub returns : goal.returns
returns c = record {
  issue = λ old new core request answer whole known all. reached_issue old core request answer new whole known all;
  evict = λ old new core line answer whole known all. reached_evicted old core line answer new whole known all;
  hand = λ old new core answer known all. reached_handed old core answer new known all;
}
