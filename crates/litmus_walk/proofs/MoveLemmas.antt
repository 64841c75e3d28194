-- What a move does to a walk.
use Rattle.std.proofs.Common.{◌≡◌, ℕ, ◌%◌, List, Option, Some, None, slice_get, subst, swap_remove, sym, true}
use Rattle.address_map.specs.declared.address.SliceId.{SliceId}
use Rattle.litmus_script.specs.Machine.{IsAnswered}
use Rattle.litmus_test.specs.declared.test.Thread.{Thread}
use Rattle.litmus_text.specs.declared.command.Command.TheVariants as commands
use Rattle.slice_core.specs.declared.run.Call.TheVariants as slice_calls
use Rattle.slice_core.specs.declared.run.CallAnswer.TheVariants as call_answers
use Rattle.slice_log.specs.declared.entry.Numbered.{Numbered}
use Rattle.litmus_walk.specs.Moves.{Hands, HandsTo, WalkState, after_hand}
use Rattle.litmus_walk.specs.Walk.{Makes}
use Rattle.litmus_walk.specs.declared.walker.Reply.{Reply}

-- a reply is delivered to its core
pub hands-one : (threads : List Thread) (number : ℕ) (reply : Reply) (thread : Thread) (slice : SliceId)
    (given : Option Numbered) (old new : WalkState)
    → slice_get old.replies number ≡ Some reply → slice_get threads reply.thread ≡ Some thread
    → slice.0 ≡ reply.line.0 % old.walk.config.slices
    → IsAnswered slice.0 (slice_calls.Hand thread.core) (call_answers.Hand given) old.walk.slices new.walk.slices
    → Makes old.walk (record { command = commands.Hand thread.core slice; step = None; done = true }) new.walk
    → new.places ≡ after_hand reply.thread given old.places → new.replies ≡ swap_remove old.replies number reply
    → Hands threads number (slice_get old.replies number) old new
hands-one threads number reply thread slice given old new is_reply is_thread at answered made places replies =
    let left = swap_remove old.replies number reply in
    let out : HandsTo (Some thread) reply left old new = (
      given,
      subst (λ n. IsAnswered n (slice_calls.Hand thread.core) (call_answers.Hand given) old.walk.slices new.walk.slices)
          at answered,
      subst (λ n. Makes old.walk (record {
        command = commands.Hand thread.core (record { 0 = n });
        step = None;
        done = true;
      }) new.walk) at made,
      places,
      replies,
    ) in
    subst (λ found. Hands threads number found old new) (sym is_reply)
    (subst (λ found. HandsTo found reply left old new) (sym is_thread) out)
