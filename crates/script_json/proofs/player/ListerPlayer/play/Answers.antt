use Rattle.std.proofs.Common.{[], Some, rules}
use Rattle.script_json.proofs.player.ListerPlayer.play.Goals as goal

pub returns-in-Ok-clause-plays : goal.returns-in-Ok-clause-plays
returns-in-Ok-clause-plays g c =
    let statement = c.args.statement.now in
    let played : g.P.Player.plays c.args.self.now.player statement.line.now c.args.command (Some [])
    (Some c.play.new.out.items) c.play.new.self = search rules in (
      c.play.new.out.items,
      statement.number,
      played,
      rw c.as_slice-items.ensures.value at c.in-Ok.ensures,
    )
