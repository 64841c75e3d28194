use Rattle.std.proofs.Common.{rules}
use Rattle.std.proofs.KnownBytes.{Appends-of_writes}
use Rattle.std.specs.Io.KnownBytes.{Appends}
use Rattle.litmus_threads.proofs.Ends.{told-in-calls}
use Rattle.litmus_threads.proofs.run.tell.Goals as goal

pub returns-in-Ok-clause-told : goal.returns-in-Ok-clause-told
returns-in-Ok-clause-told g c =
    let contents = g.W.Write.contents in
    told-in-calls _ _ _ c.args.test.now c.args.form c.args.run.now
    (λ out text. Appends (contents c.args.out.now) (contents out) text)
    c.write_run.new.out.out.now _ c.in-Ok.ensures
    (λ text wrote. Appends-of_writes (λ s. s.out.ghost_name) (λ s. contents s.out.now) _ _ _ wrote)
    (λ name. search rules)
