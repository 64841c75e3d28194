use Rattle.std.proofs.lemmas.Result.{on_ok_weaker}
use Rattle.script_prompt.proofs.SessionLemmas.{continued_more, continued_one}
use Rattle.script_prompt.proofs.session.Session.answer_command.Goals as goal

pub returns-in-Deliver-clause-plays : goal.returns-in-Deliver-clause-plays
returns-in-Deliver-clause-plays g c =
    let one = continued_one _ _ _ _ _ _ _ _ _ _ c.args.statement.now.words_of_line c.in_ok-play.ensures.played in
    on_ok_weaker c.hand_out.result (λ more. continued_more _ _ _ _ _ _ _ _ c.in_ok-play.ensures.config one more)
    c.hand_out.ensures.plays

pub returns : goal.returns
returns g c = record {
  config = c.in_ok-play.ensures.config;
  plays = continued_one _ _ _ _ _ _ _ _ _ _ c.args.statement.now.words_of_line c.in_ok-play.ensures.played;
}
