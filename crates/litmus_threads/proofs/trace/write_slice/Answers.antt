use Rattle.std.proofs.Common.{◌∙◌, rules}
use Rattle.std.proofs.KnownBytes.{Appends-of_writes}
use Rattle.litmus_script.proofs.WriteLemmas.{on_written}
use Rattle.litmus_threads.proofs.trace.write_slice.Goals as goal

pub returns-clause-trace : goal.returns-clause-trace
returns-clause-trace g c =
    let contents = g.W.Write.contents in
    on_written c.write_log.result c.written.result c.written.ensures.fine
    (λ wrote log are.
    let is = c.in_ok-log.ensures log (rw c.deref.ensures.value are) in
    let (name, bytes) = Appends-of_writes (λ s. s.out.ghost_name) (λ s. contents s.out.now) _ _ _
    (rw (c.deref-2.ensures.value ∙ is, c.deref-3.ensures.value) at wrote) in
    search rules)
    c.write_log.ensures
