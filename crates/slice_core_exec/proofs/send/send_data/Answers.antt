use Rattle.slice_queues.specs.Slice.{at_local}
use Rattle.slice_queues.specs.declared.channel.Channel.TheVariants as channels
use Rattle.slice_core_spec.proofs.RoomLaws.{takes-there}
use Rattle.slice_core_exec.proofs.send.send_data.Goals as goal

pub send_at-requires-clause-there : goal.send_at-requires-clause-there
send_at-requires-clause-there c =
    (takes-there (at_local c.args.queues.now.channels c.args.local.0) (channels.Data c.args.core) c.requires.room).0

pub send_at-requires-clause-room : goal.send_at-requires-clause-room
send_at-requires-clause-room c =
    (takes-there (at_local c.args.queues.now.channels c.args.local.0) (channels.Data c.args.core) c.requires.room).1
