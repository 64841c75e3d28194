use Rattle.std.proofs.Common.{◌≡◌, ◌++◌, ◌-◌, length, map}
use Rattle.std.specs.List.{range_with_len}
use Rattle.litmus_walk.specs.declared.moves.Move.TheVariants as moves
use Rattle.litmus_walk.proofs.moves.push_hands.Given as goal

-- the hand-outs so far, and those that are left
abbrev pub invariant-loop-reply : goal.invariant-loop-reply
invariant-loop-reply l =
    l.initial.moves.items ++ map moves.Hand (range_with_len 0 (length l.replies))
    ≡ l.moves.items ++ map moves.Hand (range_with_len l.reply (length l.replies - l.reply))
