use Rattle.std.proofs.Common.{refl, ◌∙◌, inl, inr}
use Rattle.std.proofs.lemmas.Result.{err_from_is_err_and}
use Rattle.litmus_script.proofs.script.play_all.Goals as goal

pub lines-init : goal.lines-init
lines-init g c = record { config = refl; all = λ end after rest. rest; up_to = λ after fault rest. rest }

pub lines-preserved : goal.lines-preserved
lines-preserved g c =
    let steps = c.read.ensures.read c.lines-test.true in
    let one = rw c.lines.invariant.config at c.in_ok-play_statement.ensures.played in
    record {
      config = c.in_ok-play_statement.ensures.config ∙ c.lines.invariant.config;
      all = λ end after rest. c.lines.invariant.all end after (rw steps (_, _, one, rest));
      up_to = λ after fault rest. c.lines.invariant.up_to after fault (rw steps (inr (_, _, one, rest)));
    }

pub returns-in_err-play_statement-clause-fault : goal.returns-in_err-play_statement-clause-fault
returns-in_err-play_statement-clause-fault g c =
    let p = err_from_is_err_and c.from_residual.result c.from_residual.ensures.1 in
    let wrong = rw c.lines.invariant.config at c.in_err-play_statement.ensures.fault in
    rw (p.1, p.2) (c.lines.invariant.up_to _ _ (rw (c.read.ensures.read c.lines-test.true) (inl wrong)))

pub returns-clause-played : goal.returns-clause-played
returns-clause-played g c = c.lines.invariant.all _ _ (rw (c.read.ensures.end c.lines-test.false).0 (refl, refl))
