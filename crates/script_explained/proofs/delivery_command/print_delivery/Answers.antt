use Rattle.std.proofs.Common.{rules}
use Rattle.std.proofs.KnownBytes.{Appends-of_writes}
use Rattle.std.proofs.lemmas.Result.{on_ok_weaker}
use Rattle.script_explained.proofs.delivery_command.print_delivery.Goals as goal

pub returns : goal.returns
returns g c =
    let contents = g.W.Write.contents in
    on_ok_weaker c.write_delivery.result
    (λ wrote.
    let (name, bytes) = Appends-of_writes (λ s. s.out.ghost_name) (λ s. contents s.out.now) _ _ _ wrote in
    search rules)
    c.write_delivery.ensures
