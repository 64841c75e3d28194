use Rattle.std.proofs.Common.{◌<◌, ◌∙◌, arith, refl, take}
use Rattle.std.proofs.lemmas.List.{get_or-replicate, length-set, length-take-le}
use Rattle.drain.proofs.Counting.{all-more, counted-more, times-most}
use Rattle.core_thread_system.specs.Core.{CoreView}
use Rattle.drain.proofs.whole.counts_of.Goals as goal

pub loop-core-init : goal.loop-core-init
loop-core-init g c = record {
  long = refl;
  counted = λ core few. get_or-replicate 64 core 0 0 few;
  known = tt;
}

pub overflow_add-counts : goal.overflow_add-counts
overflow_add-counts g c =
    let number = c.number_of.result in
    let i = c.loop-core.core-index in
    let cores = c.args.cores.now in
    let few : number < 64 = omega (
      arith,
      c.number_of.ensures.known,
      c.number_of.ensures.number,
      c.requires.configured,
      c.requires.few,
    ) in
    let is = c.loop-core.invariant.counted number few in
    let most = times-most number (take i cores) in
    let long = length-take-le i cores (omega arith) in
    omega (arith, is, most, long)

pub loop-core-preserved : goal.loop-core-preserved
loop-core-preserved g c =
    let so_far = c.loop-core.invariant in
    let cores = c.args.cores.now in
    let i = c.loop-core.core-index in
    record {
      long = length-set c.loop-core.counts _ _ ∙ so_far.long;
      counted = counted-more cores c.loop-core.counts i c.number_of.result c.core-item.result
          (omega arith) c.core-item.is
          c.number_of.ensures.number so_far.long so_far.counted;
      known = all-more (λ (v : CoreView). v.core.0 < g.M.SystemNames.setup.cores) cores i c.core-item.result
          (omega arith) c.core-item.is so_far.known
          c.number_of.ensures.known;
    }
