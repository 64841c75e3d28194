use Rattle.std.proofs.lemmas.Result.{on_ok_weaker}
use Rattle.std.proofs.Output.{writes_in_calls_append}
use Rattle.slice_text.proofs.line.write_home.Goals as goal

pub returns : goal.returns
returns g c =
    on_ok_weaker c.write_words.result
    (λ rest. writes_in_calls_append g.W.Write.write_str_gives _ _ _ _ _ c.in_ok-write.ensures.writes rest)
    c.write_words.ensures
