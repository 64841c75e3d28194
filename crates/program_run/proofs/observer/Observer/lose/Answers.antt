use Rattle.std.proofs.Common.{sym, ◌∙◌}
use Rattle.program_run.proofs.Seen.{when_false, when_true}
use Rattle.program_run.proofs.observer.Observer.lose.Goals as goal

pub returns-then-not-has_line : goal.returns-then-not-has_line
returns-then-not-has_line c = λ config history seen.
    when_false config _ _ history _ (sym (c.has_line.ensures config history seen) ∙ c.if-not-has_line.true) seen

pub returns : goal.returns
returns c = λ config history seen.
    when_true config _ _ history _ (sym (c.has_line.ensures config history seen) ∙ c.if-not-has_line.false)
    (c.note.ensures config history seen)
