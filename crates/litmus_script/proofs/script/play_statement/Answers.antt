use Rattle.std.proofs.Common.{◌≡◌, refl}
use Rattle.litmus_script.proofs.script.play_statement.Goals as goal

pub returns-in-Err-clause-fault : goal.returns-in-Err-clause-fault
returns-in-Err-clause-fault g c =
    let same : c.config.result.now ≡ g.P.Player.config_of c.args.player.now = c.config.ensures in
    let wrong = c.fault_behind.ensures (g.P.Player.config_of c.args.player.now) (rw same at c.in-Err.ensures.fault) in
    rw c.at.ensures (refl, rw c.as_slice-words.ensures.value at wrong, refl)
