use Rattle.std.proofs.lemmas.Result.{on_ok_weaker}
use Rattle.std.proofs.Output.{writes_in_calls_append}
use Rattle.script_explained.proofs.Pieces.{pieces}
use Rattle.script_explained.proofs.issue.write_eviction.Goals as goal

pub returns : goal.returns
returns g c =
    let then = writes_in_calls_append g.W.Write.write_str_gives in
    on_ok_weaker c.writeln.result
    (λ last. rw pieces (then _ _ _ _ _ c.in_ok-write.ensures.writes (then _ _ _ _ _ c.in_ok-write_copies.ensures last)))
    c.writeln.ensures.writes
