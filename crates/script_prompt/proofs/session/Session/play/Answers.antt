use Rattle.std.proofs.Common.{◌≡◌, refl}
use Rattle.script_prompt.proofs.session.Session.play.Goals as goal

pub returns-in-Err-clause-fault : goal.returns-in-Err-clause-fault
returns-in-Err-clause-fault g c =
    let same : c.config.result.now ≡ c.args.self.now.player.machine.config = c.config.ensures in
    let wrong = rw same at c.in-Err.ensures.fault in
    rw c.at.ensures (refl, rw c.as_slice.ensures.value at wrong, refl)
