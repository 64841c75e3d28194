use Rattle.std.proofs.Common.{rules}
use Rattle.std.proofs.KnownBytes.{Appends-of_writes}
use Rattle.litmus_script.proofs.WriteLemmas.{on_written}
use Rattle.script_waves.proofs.in_use.write_core.Goals as goal

pub returns-clause-written : goal.returns-clause-written
returns-clause-written g c =
    let contents = g.W.Write.contents in
    on_written c.write_use.result c.written.result c.written.ensures.fine
    (λ wrote.
    let (name, bytes) = Appends-of_writes (λ s. s.out.ghost_name) (λ s. contents s.out.now) _ _ _ wrote in
    search rules)
    (rw c.in_ok-used.ensures at c.write_use.ensures)
