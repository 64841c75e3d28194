use Rattle.std.proofs.Common.{Some, ap, slice_index_or, sym, ◌∙◌}
use Rattle.writeback_buffer.proofs.BufferLaws.{ChangesOnly-without_line, IsBuffer-without_line, held-found}
use Rattle.writeback_buffer.proofs.BufferLaws.{held-missing, without_line-missing, without_line-removed}
use Rattle.writeback_buffer.proofs.buffer.WritebackBuffer.remove.Goals as goal

pub returns-in_default-clause-taken : goal.returns-in_default-clause-taken
returns-in_default-clause-taken c =
    sym (held-missing c.args.self.now c.args.line.0 (sym c.place_of.ensures.place ∙ c.in_default.is))

pub returns-in_default-clause-removed : goal.returns-in_default-clause-removed
returns-in_default-clause-removed c =
    sym (without_line-missing c.args.self.now c.args.line.0 (sym c.place_of.ensures.place ∙ c.in_default.is))

pub returns-in_default-clause-absent : goal.returns-in_default-clause-absent
returns-in_default-clause-absent c =
    ChangesOnly-without_line c.args.self.now c.args.self.now c.args.line.0 (returns-in_default-clause-removed c)

pub returns-clause-taken : goal.returns-clause-taken
returns-clause-taken c =
    let found = sym c.place_of.ensures.place ∙ c.in-Some.is in
    let read =
    c.remove.ensures.value
    ∙ ap (λ b. slice_index_or b.write_backs c.in-Some.place c.remove.result) c.self.view_is in
    ap (λ write_back. Some write_back.leaving) read
    ∙ sym (held-found c.args.self.now c.args.line.0 c.in-Some.place c.remove.result c.place_of.ensures.sound found)

pub returns-clause-removed : goal.returns-clause-removed
returns-clause-removed c =
    without_line-removed _ c.args.self.now c.args.line.0 c.in-Some.place c.remove.new.self.items c.self.view_is
    c.remove.ensures.items c.place_of.ensures.sound (sym c.place_of.ensures.place ∙ c.in-Some.is)

pub invariant_of-self : goal.invariant_of-self
invariant_of-self c =
    IsBuffer-without_line c.args.self.now _ c.args.line.0 c.place_of.ensures.sound (returns-clause-removed c)

pub returns-clause-absent : goal.returns-clause-absent
returns-clause-absent c = ChangesOnly-without_line c.args.self.now _ c.args.line.0 (returns-clause-removed c)
