use Rattle.std.proofs.Common.{◌<◌, ◌^◌, sym, subst, ◌∙◌}
use Rattle.slice_log.specs.Log.{initially}
use Rattle.history_judge.proofs.Rules.{never_unwritten}
use Rattle.history_judge.proofs.Tables.{says_none}
use Rattle.history_judge.proofs.refutation.is_unwritten.Goals as goal

pub returns-then-value-initial_of : goal.returns-then-value-initial_of
returns-then-value-initial_of c = λ yes.
    let history = c.args.history.now in
    let word = c.in-Some.access.word.0 in
    let v = c.in-Some-Some.value in
    never_unwritten (initially c.args.initial.now) word history c.args.place v
    (subst (λ n. n < 2 ^ 64) c.initial_of.ensures c.initial_of.type_inv) (sym c.in-Some-Some.ensures)
    (λ same. c.if-value-initial_of.true (same ∙ sym c.initial_of.ensures))
    (says_none c.in-Some-Some.writers.now word history v c.get.result c.is_none.result
    (c.in-Some-Some.ensures' history c.requires) c.get.ensures c.is_none.ensures yes)
