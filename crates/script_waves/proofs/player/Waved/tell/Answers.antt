use Rattle.std.proofs.lemmas.Result.{on_ok_weaker}
use Rattle.script_waves.specs.Values.{text_of_command, text_of_time}
use Rattle.script_waves.proofs.WavesLemmas.{told_behind}
use Rattle.script_waves.proofs.player.Waved.tell.Goals as goal

pub returns-clause-told : goal.returns-clause-told
returns-clause-told g c =
    on_ok_weaker c.write_changes.result
    (λ last. told_behind (text_of_time c.args.self.now.played) (text_of_command c.args.line.now) _ _ _ _
    c.in_ok-tell_command.ensures.told (rw c.as_slice.ensures.value at last))
    c.write_changes.ensures.written
