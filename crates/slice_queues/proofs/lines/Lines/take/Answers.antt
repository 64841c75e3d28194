use Rattle.std.proofs.Common.{◌≡◌, true, rules}
use Rattle.slice_queues.specs.Line.{HasChannel}
use Rattle.slice_queues.proofs.LineLaws.{takes_only}
use Rattle.slice_queues.proofs.lines.Lines.take.Goals as goal

pub returns-clause-rest : goal.returns-clause-rest
returns-clause-rest c =
    let is : c.has_channel.result ≡ true = search rules in
    let there : HasChannel c.line-line.result c.args.channel = c.has_channel.ensures.there.0 is in
    takes_only _ _ (rw c.line-line.ensures at there)
