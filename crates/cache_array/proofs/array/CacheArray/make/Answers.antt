use Rattle.std.proofs.Common.{◌≡◌, ◌∙◌, arith}
use Rattle.cache_array.proofs.Sets.{made_sound}
use Rattle.cache_array.proofs.array.CacheArray.make.Goals as goal

pub invariant_of-result : goal.invariant_of-result
invariant_of-result g c =
    let all : c.loop-set.set ≡ c.args.config.now.sets = omega (arith, c.sets-count.ensures.sets) in
    made_sound c.into_boxed_slice.result.items.items c.loop-set.set c.args.config.now.sets
    c.ways-ways.result c.args.policy
    (c.into_boxed_slice.ensures.items ∙ c.loop-set.invariant) all c.sets-count.ensures.allowed.sets_power
