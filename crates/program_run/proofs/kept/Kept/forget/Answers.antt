use Rattle.std.proofs.Common.{◌<◌, ◌≤◌, length, rules}
use Rattle.program_run.proofs.KeptLemmas.{forgets, past_all}
use Rattle.program_run.proofs.kept.Kept.forget.Goals as goal

pub returns-then-place-len-clause-decided : goal.returns-then-place-len-clause-decided
returns-then-place-len-clause-decided c = λ config old new all others.
    let past : length c.args.self.now.decided.items ≤ c.args.core.0 = search rules in
    past_all config c.args.core old new c.args.self.now.decided.items all others past

pub returns-clause-decided : goal.returns-clause-decided
returns-clause-decided c = λ config old new all others.
    let within : c.args.core.0 < length c.args.self.now.decided.items = search rules in
    forgets config c.args.core old new c.args.self.now.decided.items all others within
