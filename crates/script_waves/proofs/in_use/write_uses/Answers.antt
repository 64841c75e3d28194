use Rattle.litmus_script.proofs.MachineLemmas.{have_cores}
use Rattle.script_waves.proofs.in_use.write_uses.Goals as goal

pub write_slices-requires : goal.write_slices-requires
write_slices-requires g c =
    let machine = c.args.machine.now in
    rw (c.as_slice.ensures.value, c.core_count-cores.ensures)
    (have_cores machine.config machine.slices.items machine.shaped.each)
