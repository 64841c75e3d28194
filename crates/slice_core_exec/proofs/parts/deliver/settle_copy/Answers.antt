use Rattle.std.proofs.Common.{ap, length, length-append, arith}
use Rattle.slice_log.specs.declared.entry.Entry.{Entry}
use Rattle.mshr_file.specs.Miss.{targets_of}
use Rattle.slice_core_cache.specs.Perform.{performed_in}
use Rattle.slice_core_cache.specs.CoreCache.{array_copy}
use Rattle.slice_core_exec.proofs.SettledLaws.{length-entries_of, length-performed_in}
use Rattle.slice_core_exec.proofs.parts.deliver.settle_copy.Goals as goal

pub overflow_sub-pending-2 : goal.overflow_sub-pending-2
overflow_sub-pending-2 g c =
    let copy = array_copy c.args.cache.now c.args.local in
    let targets = targets_of c.args.cache.now.misses c.args.local.0 in
    omega (
      arith,
      ap length c.settle-asks.ensures.log,
      length-append {A = Entry},
      length-entries_of c.args.core c.args.first copy.block (performed_in copy.state targets),
      length-performed_in copy.state targets,
      c.len.ensures,
      c.len-before.ensures,
    )

pub returns-clause-pending : goal.returns-clause-pending
returns-clause-pending g c =
    let copy = array_copy c.args.cache.now c.args.local in
    let targets = targets_of c.args.cache.now.misses c.args.local.0 in
    omega (
      arith,
      ap length c.settle-asks.ensures.log,
      length-append {A = Entry},
      length-entries_of c.args.core c.args.first copy.block (performed_in copy.state targets),
      length-performed_in copy.state targets,
      c.len.ensures,
      c.len-before.ensures,
    )
