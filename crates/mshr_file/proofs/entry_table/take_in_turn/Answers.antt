use Rattle.std.proofs.Common.{[], ◌∷◌, arith}
use Rattle.mshr_file.specs.Waiting.{waiting_in}
use Rattle.mshr_file.proofs.Entries.{one_left, takes_more}
use Rattle.mshr_file.proofs.entry_table.take_in_turn.Goals as goal

pub take_entry-requires-clause-kept : goal.take_entry-requires-clause-kept
take_entry-requires-clause-kept c = c.loop.invariant.kept

pub take_entry-requires-clause-some : goal.take_entry-requires-clause-some
take_entry-requires-clause-some c =
    let counted = c.loop.invariant.counted in
    let enough = c.requires.enough in
    one_left c.args.line.0 (waiting_in c.args.table.now) (waiting_in c.loop.table) c.loop.taken.items
    c.loop.invariant.takes (omega (arith, counted, enough, c.loop-test.true))

pub loop-preserved : goal.loop-preserved
loop-preserved c = record {
  kept = c.take_entry.ensures.kept;
  counted = let counted = c.loop.invariant.counted in let longer = c.push.ensures.len in omega (arith, counted, longer);
  takes =
      rw c.push.ensures.items
      (takes_more
      c.args.line.0 (waiting_in c.args.table.now) (waiting_in c.loop.table) (waiting_in c.take_entry.new.table)
      c.loop.taken.items (c.take_entry.result ∷ []) c.loop.invariant.takes
      (let counted = c.loop.invariant.counted in
      let enough = c.requires.enough in
      one_left c.args.line.0 (waiting_in c.args.table.now) (waiting_in c.loop.table) c.loop.taken.items
      c.loop.invariant.takes (omega (arith, counted, enough, c.loop-test.true)))
      c.take_entry.ensures.taken);
}
