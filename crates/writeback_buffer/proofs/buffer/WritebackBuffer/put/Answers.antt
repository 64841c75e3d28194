use Rattle.std.proofs.Common.{refl, subst, rules}
use Rattle.writeback_buffer.specs.Buffer.{IsBuffer}
use Rattle.writeback_buffer.proofs.BufferLaws.{ChangesOnly-with_line, IsBuffer-with_line}
use Rattle.writeback_buffer.proofs.buffer.WritebackBuffer.put.Goals as goal

pub invariant_of-self : goal.invariant_of-self
invariant_of-self c =
    IsBuffer-with_line c.args.self.now _ c.args.line.0 c.args.leaving (subst IsBuffer c.self.view_is c.self.invariant)
    c.requires.room c.requires.absent (rw (c.push.ensures.items, ← c.self.view_is) refl)

pub returns-clause-held : goal.returns-clause-held
returns-clause-held c =
    ChangesOnly-with_line c.args.self.now _ c.args.line.0 c.args.leaving c.requires.absent (search rules)
