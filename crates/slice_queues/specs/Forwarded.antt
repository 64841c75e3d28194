-- A forwarded queue is the list of its messages, the oldest first.
use Rattle.std.specs.Prelude.{List, [], ◌∷◌}
use Rattle.slice_queues.specs.declared.message.ForwardedMessage.{ForwardedMessage}
use Rattle.slice_queues.specs.declared.forwarded_queue.ForwardedQueue.{ForwardedQueue}
use Rattle.slice_queues.specs.declared.forwarded_queue.ForwardedQueue.TheVariants.{Empty, One, Two}

-- the messages that wait
abbrev pub queued_messages : ForwardedQueue → List ForwardedMessage
queued_messages Empty = []
queued_messages (One first) = first ∷ []
queued_messages (Two first second) = first ∷ second ∷ []
