use Rattle.slice_core_cache.proofs.Replies.{marks-none}
use Rattle.slice_core_cache.proofs.tags.Tags.new.Goals as goal

pub invariant_of-result : goal.invariant_of-result
invariant_of-result c = rw c.none-replies.ensures marks-none
