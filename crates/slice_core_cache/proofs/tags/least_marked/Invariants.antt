use Rattle.std.proofs.Common.{length}
use Rattle.address_map.specs.CoreSet.{members}
use Rattle.slice_core_cache.proofs.Replies.{IsSearched}
use Rattle.slice_core_cache.proofs.tags.least_marked.Given as goal

abbrev pub invariant-loop-tag : goal.invariant-loop-tag
invariant-loop-tag l = IsSearched l.states l.fn.replies l.rest l.least

abbrev pub decreases-loop-tag : goal.decreases-loop-tag
decreases-loop-tag l = length (members l.rest)
