use Rattle.std.proofs.KnownBytes.{Appends-trans}
use Rattle.std.proofs.lemmas.Result.{on_ok_weaker}
use Rattle.murphi_trace.specs.Fired.{name_and_cores}
use Rattle.murphi_trace.proofs.StepLemmas.{told_step}
use Rattle.murphi_trace.proofs.replay.write_line.Goals as goal

pub returns-clause-text : goal.returns-clause-text
returns-clause-text g c = λ before are.
    rw (told_step c.args.line.now (name_and_cores c.in-Some.fired) c.in-Some-of.rule c.in-Some.ensures
    c.in-Some-of.ensures.value)
    (on_ok_weaker c.write_rule.result (λ last. Appends-trans _ _ _ _ _ c.in_ok-put_comment.ensures last)
    (c.write_rule.ensures.text before are))
