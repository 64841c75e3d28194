use Rattle.std.proofs.Common.{◌↔◌, subst}
use Rattle.std.specs.Prelude.{IsTrue, None}
use Rattle.slice_core_cache.specs.Tags.{IsLeastReply}
use Rattle.slice_core_cache.proofs.Replies.{none-marked}
use Rattle.slice_core_cache.proofs.tags.Tags.has_no_reply.Goals as goal

pub returns : goal.returns
returns c =
    let none = none-marked c.self.inside.states c.self.inside.replies c.self.invariant in
    let empty = c.is_empty.ensures in
    subst (λ states. IsTrue c.is_empty.result ↔ IsLeastReply states None) c.self.view_is
    ((λ yes. none.0 (empty.0 yes)), (λ quiet. empty.1 (none.1 quiet)))
