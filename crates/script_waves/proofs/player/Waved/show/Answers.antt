use Rattle.std.proofs.Common.{ap, rules}
use Rattle.script_waves.specs.Waves.{next}
use Rattle.script_waves.proofs.player.Waved.show.Goals as goal

pub returns-clause-shown : goal.returns-clause-shown
returns-clause-shown g c =
    let named = c.in_ok-name.ensures in
    record {
      names = named.names;
      counted = ap next named.count;
      values = search rules;
      written = search rules;
    }
