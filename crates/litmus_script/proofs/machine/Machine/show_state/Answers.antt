use Rattle.std.proofs.Common.{refl, rules}
use Rattle.std.proofs.KnownBytes.{Appends-of_writes}
use Rattle.litmus_script.proofs.WriteLemmas.{on_written}
use Rattle.litmus_script.proofs.machine.Machine.show_state.Goals as goal

pub returns-clause-printed : goal.returns-clause-printed
returns-clause-printed g c =
    let contents = g.W.Write.contents in
    on_written c.write_line.result c.written.result c.written.ensures.fine
    (λ wrote.
    let (name, bytes) = Appends-of_writes (λ s. s.out.ghost_name) (λ s. contents s.out.now) _ _ _ wrote in
    record { printed = (refl, (_, c.line_now-shown.ensures, search rules)) })
    c.write_line.ensures
