use Rattle.std.proofs.Common.{sym, ◌∙◌}
use Rattle.lockup_c.proofs.check.add_entry.Goals as goal

pub returns-in-Ok-clause-taken : goal.returns-in-Ok-clause-taken
returns-in-Ok-clause-taken c = λ done. record {
  entry = c.in-Some.entry;
  named = sym c.entry_named.ensures.named ∙ c.in-Some.is;
  stands = c.in-Ok.ensures;
}
