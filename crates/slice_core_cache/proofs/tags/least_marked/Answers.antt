use Rattle.slice_core_cache.proofs.Replies.{search-goes_on, search-ends}
use Rattle.slice_core_cache.proofs.tags.least_marked.Goals as goal

pub loop-tag-preserved : goal.loop-tag-preserved
loop-tag-preserved c =
    let first = c.in-Some.ensures in
    rw (first.removed, c.earlier_of-least.ensures)
    (search-goes_on c.args.states.now c.args.replies c.loop-tag.rest c.in-Some.tag.0 c.loop-tag.least
    c.loop-tag.invariant first.there)

pub returns-clause-least : goal.returns-clause-least
returns-clause-least c =
    search-ends c.args.states.now c.args.replies c.loop-tag.rest c.loop-tag.least c.loop-tag.invariant
    (c.pop_first.ensures.none c.in_default.is).0
