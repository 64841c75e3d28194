use Rattle.std.proofs.Common.{rules}
use Rattle.std.proofs.KnownBytes.{Appends-of_writes}
use Rattle.litmus_script.proofs.WriteLemmas.{on_written}
use Rattle.litmus.proofs.traces.name_slice.Goals as goal

pub returns-clause-named : goal.returns-clause-named
returns-clause-named g c =
    let contents = g.W.Write.contents in
    on_written c.write_heading.result c.written.result c.written.ensures.fine
    (λ wrote.
    let (name, bytes) = Appends-of_writes (λ s. s.out.ghost_name) (λ s. contents s.out.now) _ _ _ wrote in
    search rules)
    c.write_heading.ensures
