use Rattle.std.proofs.Common.{◌≡◌, ◌++◌, drop}
use Rattle.std.specs.Prelude.{filter_map}
use Rattle.litmus_walk.specs.Moves.{reply_to}
use Rattle.litmus_walk.proofs.walker.push_replies.Given as goal

-- the replies of the entries so far, and of those that are left
abbrev pub invariant-loop-entry : goal.invariant-loop-entry
invariant-loop-entry l =
    l.initial.replies.items ++ filter_map (reply_to l.threads) l.performed
    ≡ l.replies.items ++ filter_map (reply_to l.threads) (drop l.entry-index l.performed)
