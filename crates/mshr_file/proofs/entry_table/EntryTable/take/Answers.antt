use Rattle.std.proofs.Common.{length, ap, sym, ◌∙◌, arith}
use Rattle.mshr_file.specs.Waiting.{waiting_in}
use Rattle.mshr_file.proofs.ByLine.{waits_at, by_line_sound}
use Rattle.mshr_file.proofs.Entries.{has_miss_at, takes_targets, lines_taken, first_of}
use Rattle.mshr_file.proofs.Tags.{few_at}
use Rattle.mshr_file.proofs.entry_table.EntryTable.take.Goals as goal

pub take_in_turn-requires-clause-some : goal.take_in_turn-requires-clause-some
take_in_turn-requires-clause-some c = sym (has_miss_at (waiting_in c.args.self.now) c.args.line.0) ∙ c.requires.some

pub take_in_turn-requires-clause-enough : goal.take_in_turn-requires-clause-enough
take_in_turn-requires-clause-enough c =
    let same = ap length (waits_at (waiting_in c.args.self.now) c.args.line.0) in
    let enough = c.requires.enough in
    omega (arith, same, enough)

pub take_in_turn-requires-clause-room : goal.take_in_turn-requires-clause-room
take_in_turn-requires-clause-room c =
    let few = few_at c.args.line.0 (waiting_in c.args.self.now) c.requires.kept.by_tag in
    let same = ap length (waits_at (waiting_in c.args.self.now) c.args.line.0) in
    let enough = c.requires.enough in
    omega (arith, few, same, enough)

pub returns-clause-first : goal.returns-clause-first
returns-clause-first c = first_of _ _ _ _ _ c.take_in_turn.ensures.taken c.take_in_turn.ensures.count

pub returns-clause-taken : goal.returns-clause-taken
returns-clause-taken c = takes_targets _ _ _ _ c.take_in_turn.ensures.taken

pub returns-clause-lines : goal.returns-clause-lines
returns-clause-lines c = lines_taken _ _ _ _ c.take_in_turn.ensures.taken

pub returns-clause-sound : goal.returns-clause-sound
returns-clause-sound c = by_line_sound (waiting_in c.take_in_turn.new.table)
