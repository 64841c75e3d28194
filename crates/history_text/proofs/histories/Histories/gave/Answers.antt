use Rattle.std.proofs.Common.{sym, ◌∙◌}
use Rattle.history_text.proofs.Reading.{given_again, given_first}
use Rattle.history_text.proofs.histories.Histories.gave.Goals as goal

pub returns-in-Init-clause-again : goal.returns-in-Init-clause-again
returns-in-Init-clause-again c = λ some told are.
    rw c.in-Init.is
    (given_again c.args.self.now told c.in-Init.word c.in-Init.field-1 c.given.result c.given.ensures
    (sym c.is_some.ensures ∙ some) are)

pub returns-in-Init-clause-fresh : goal.returns-in-Init-clause-fresh
returns-in-Init-clause-fresh c = λ none told are.
    rw c.in-Init.is
    (given_first c.args.self.now told c.in-Init.word c.in-Init.field-1 c.given.result c.given.ensures
    (sym c.is_some.ensures ∙ none) are)
