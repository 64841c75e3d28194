use Rattle.std.proofs.Common.{ap, sym, filter, arith, ◌∙◌}
use Rattle.std.specs.List.{prefix_len}
use Rattle.std.proofs.lemmas.List.Sums.{prefix_len-le-length}
use Rattle.target_list.specs.Target.{is_load}
use Rattle.mshr_file.specs.Miss.{targets_of}
use Rattle.mshr_file.specs.Waiting.{by_line, slot_for, waiting_in}
use Rattle.mshr_file.proofs.Entries.{front_loads_at, front_count}
use Rattle.mshr_file.proofs.Slots.{load_slots}
use Rattle.mshr_file.proofs.entry_table.EntryTable.count_front_loads.Goals as goal

pub returns-clause-count : goal.returns-clause-count
returns-clause-count c =
    c.count_loads.ensures
    ∙ ap (λ slots. prefix_len (λ slot. slot.load) (filter (slot_for c.args.line.0) slots)) c.as_slice.ensures.value
    ∙ load_slots c.args.self.now c.args.line.0 c.requires
    ∙ front_loads_at c.args.line.0 (waiting_in c.args.self.now)
    ∙ sym (front_count (targets_of (by_line (waiting_in c.args.self.now)) c.args.line.0))

pub returns-clause-within : goal.returns-clause-within
returns-clause-within c =
    let count = returns-clause-count c in
    let prefix = front_count (targets_of (by_line (waiting_in c.args.self.now)) c.args.line.0) in
    let most = prefix_len-le-length is_load (targets_of (by_line (waiting_in c.args.self.now)) c.args.line.0) in
    omega (arith, count, prefix, most)
