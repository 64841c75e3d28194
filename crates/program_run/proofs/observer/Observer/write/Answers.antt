use Rattle.std.proofs.Common.{sym, ◌∙◌}
use Rattle.program_run.proofs.Seen.{when_false, when_true}
use Rattle.program_run.proofs.observer.Observer.write.Goals as goal

pub returns-then-not-writes : goal.returns-then-not-writes
returns-then-not-writes c = λ config history seen.
    when_false config _ _ history _ (sym c.writes.ensures ∙ c.if-not-writes.true) seen

pub returns : goal.returns
returns c = λ config history seen.
    when_true config _ _ history _ (sym c.writes.ensures ∙ c.if-not-writes.false) (c.note.ensures config history seen)
