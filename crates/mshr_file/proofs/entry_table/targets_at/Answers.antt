use Rattle.std.proofs.Common.{ap, arith, length, map, take}
use Rattle.std.proofs.lemmas.List.{length-map, length-take-le}
use Rattle.mshr_file.specs.Waiting.{entry_at}
use Rattle.mshr_file.proofs.Tags.{few_for}
use Rattle.mshr_file.proofs.entry_table.targets_at.Goals as goal

pub push-requires : goal.push-requires
push-requires c =
    let seen = take c.loop-slot.slot-index c.args.slots.now in
    let few = few_for c.args.line.0 (map (entry_at c.args.entries.now) seen) in
    let mapped = length-map seen (entry_at c.args.entries.now) in
    let invariant = c.loop-slot.invariant in
    let same = ap length invariant in
    let inside = c.loop-slot-test.true in
    let taken = length-take-le c.loop-slot.slot-index c.args.slots.now (omega (arith, inside)) in
    let enough = c.requires in
    omega (arith, few, mapped, same, inside, taken, enough)
