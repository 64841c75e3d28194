use Rattle.std.proofs.Common.{rules}
use Rattle.std.proofs.KnownBytes.{Appends-of_writes}
use Rattle.litmus_rounds.proofs.run.print_gave_up.Goals as goal

pub returns-in-Ok : goal.returns-in-Ok
returns-in-Ok g c =
    let contents = g.W.Write.contents in
    let (name, bytes) = Appends-of_writes (λ s. s.out.ghost_name) (λ s. contents s.out.now) _ _ _ c.in-Ok.ensures in
    search rules
