use Rattle.slice_core_cache.specs.Copy.{may_leave}
use Rattle.slice_core_cache.proofs.Places.{stands_after}
use Rattle.slice_core_cache.proofs.core_cache.CoreCache.replace.Goals as goal

pub returns-clause-stands : goal.returns-clause-stands
returns-clause-stands g c =
    let draw = c.draw_victim-victim in
    rw (c.evict-put.ensures.after, draw.ensures.after)
    (stands_after c.args.self.now.array c.args.local draw.result (λ copy. may_leave copy.state) draw.ensures.arranged
    c.requires.replaces.absent draw.ensures.goes draw.ensures.set)
