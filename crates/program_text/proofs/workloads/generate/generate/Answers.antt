use Rattle.program_text.proofs.workloads.generate.generate.Goals as goal

pub returns-in-Ok : goal.returns-in-Ok
returns-in-Ok c =
    let says = rw c.as_slice.ensures.value at c.in-Ok.ensures.written in
    record { programs = c.in-Ok.programs; says = says }
