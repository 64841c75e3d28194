use Rattle.std.proofs.Common.{arith}
use Rattle.murphi_trace.specs.Script.{accesses_of}
use Rattle.murphi_trace.proofs.TagLemmas.{tags_more}
use Rattle.murphi_trace.proofs.replay.write_access.Goals as goal

pub returns-in_err-write_hand-clause-tags : goal.returns-in_err-write_hand-clause-tags
returns-in_err-write_hand-clause-tags g c = λ before rule access are.
    tags_more c.args.tags.now before rule c.args.core.0 c.next_tag-tag.result (omega arith) access
    (c.next_tag-tag.ensures (accesses_of c.args.core.0 before) (are c.args.core.0 c.requires)) are

pub returns-clause-tags : goal.returns-clause-tags
returns-clause-tags g c = λ before rule access are.
    tags_more c.args.tags.now before rule c.args.core.0 c.next_tag-tag.result (omega arith) access
    (c.next_tag-tag.ensures (accesses_of c.args.core.0 before) (are c.args.core.0 c.requires)) are
