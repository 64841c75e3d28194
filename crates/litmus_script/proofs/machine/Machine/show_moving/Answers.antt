use Rattle.std.proofs.Common.{refl, rules}
use Rattle.std.proofs.KnownBytes.{Appends-of_writes}
use Rattle.litmus_script.proofs.MachineLemmas.{have_cores}
use Rattle.litmus_script.proofs.WriteLemmas.{on_written}
use Rattle.litmus_script.proofs.machine.Machine.show_moving.Goals as goal

pub write_slices-requires : goal.write_slices-requires
write_slices-requires g c =
    rw c.as_slice.ensures.value (have_cores c.args.self.now.config c.args.self.now.slices.items
    c.args.self.now.shaped.each)

pub returns-clause-printed : goal.returns-clause-printed
returns-clause-printed g c =
    let contents = g.W.Write.contents in
    on_written c.write_slices.result c.written.result c.written.ensures.fine
    (λ wrote.
    let (name, bytes) = Appends-of_writes (λ s. s.out.ghost_name) (λ s. contents s.out.now) _ _ _ wrote in
    record { printed = (refl, search rules) })
    c.write_slices.ensures
