use Rattle.slice_queues.proofs.SliceLaws.{sends_only_in}
use Rattle.slice_queues.proofs.queues.Queues.send.Goals as goal

pub returns-clause-sent : goal.returns-clause-sent
returns-clause-sent c =
    rw
    (c.send_at.ensures.after, c.place_of-local.ensures, c.channel.ensures, c.line.ensures)
    (sends_only_in
    c.args.self.now.channels c.args.pick c.args.message c.requires.there.0
    (rw (c.place_of-local.ensures, c.channel.ensures, c.line.ensures) at c.send_at.ensures.sent))
