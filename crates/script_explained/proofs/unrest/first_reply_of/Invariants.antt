use Rattle.std.proofs.Common.{◌≡◌, ◌-◌}
use Rattle.std.specs.List.{range_with_len}
use Rattle.script_explained.specs.Unrest.{replies_from, replies_of}
use Rattle.script_explained.proofs.unrest.first_reply_of.Given as goal

-- among the tags so far there is none
abbrev pub invariant-loop-tag : goal.invariant-loop-tag
invariant-loop-tag l =
    replies_from l.state.view l.core (range_with_len l.tag (64 - l.tag)) ≡ replies_of l.state.view l.core
