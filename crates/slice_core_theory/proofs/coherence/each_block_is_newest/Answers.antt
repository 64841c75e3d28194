use Rattle.slice_core_theory.proofs.Current.{newest, reached_without}
use Rattle.slice_core_theory.proofs.QuietNewest.{quiet_newest}
use Rattle.slice_core_theory.proofs.coherence.each_block_is_newest.Goals as goal

pub returns : goal.returns
returns c = record {
  reached = λ v all. reached_without v all.reached;
  newest = λ v some most all. newest v some most all.reached;
  quiet = λ v local whole some misses all quiet inside. quiet_newest v whole some misses all.reached quiet local inside;
}
