use Rattle.std.proofs.Common.{ap, sym, ◌∙◌}
use Rattle.writeback_buffer.proofs.BufferLaws.{held-found, held-missing}
use Rattle.writeback_buffer.proofs.buffer.WritebackBuffer.get.Goals as goal

pub returns-in_default-clause-held : goal.returns-in_default-clause-held
returns-in_default-clause-held c =
    sym (held-missing c.args.self.now c.args.line.0 (sym c.place_of.ensures.place ∙ c.in_default.is))

pub returns-clause-held : goal.returns-clause-held
returns-clause-held c =
    let found = sym c.place_of.ensures.place ∙ c.in-Some.is in
    let held = held-found c.args.self.now c.args.line.0 c.in-Some.place _ c.place_of.ensures.sound found in
    rw (c.deref.ensures.0, ap (λ b. b.write_backs) c.self.view_is) (sym held)
