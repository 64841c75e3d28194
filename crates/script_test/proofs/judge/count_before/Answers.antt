use Rattle.script_test.proofs.JudgedLemmas.{begin_behind_next}
use Rattle.script_test.proofs.judge.count_before.Goals as goal

pub returns-in-len1-up-clause-behind : goal.returns-in-len1-up-clause-behind
returns-in-len1-up-clause-behind c =
    begin_behind_next (λ a. (a.line, a.text.now)) (λ w. (w.line, w.text.now)) c.args.next.now c.args.wants.now
    c.count_below.result _ c.in-len1-up.len_at_least
    c.count_below.ensures.behind
