use Rattle.std.proofs.Common.{◌≢◌, rules}
use Rattle.std.specs.Prelude.{codes}
use Rattle.std.proofs.lemmas.Result.{err_from_is_err_and}
use Rattle.litmus_text.proofs.FormLemmas.{no_words}
use Rattle.litmus_test.proofs.SettingLemmas.{config_wrong, no_words_wrong}
use Rattle.litmus_test.proofs.setting.Setting.parse.Goals as goal

pub returns-in_default-clause-fault : goal.returns-in_default-clause-fault
returns-in_default-clause-fault c =
    rw (no_words (λ w. w.now) c.args.words.now c.in_default.ensures.cases) no_words_wrong

pub returns-in_err-parse-clause-fault : goal.returns-in_err-parse-clause-fault
returns-in_err-parse-clause-fault c =
    let p = err_from_is_err_and c.from_residual.result c.from_residual.ensures.1 in
    let no_rounds : c.in-Some.name.now.now ≢ codes "rounds" = search rules in
    let no_movers : c.in-Some.name.now.now ≢ codes "movers" = search rules in
    rw (p.1, p.2, c.in-Some.ensures.cases.0)
    (config_wrong _ _ _ no_rounds no_movers (rw c.in-Some.ensures.cases.0 at c.in_err-parse.ensures.fault))
