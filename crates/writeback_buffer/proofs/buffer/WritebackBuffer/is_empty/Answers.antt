use Rattle.std.proofs.Common.{ap}
use Rattle.writeback_buffer.proofs.BufferLaws.{nothing_held}
use Rattle.writeback_buffer.proofs.buffer.WritebackBuffer.is_empty.Goals as goal

pub returns-clause-nothing_held : goal.returns-clause-nothing_held
returns-clause-nothing_held c =
    nothing_held c.self.inside.write_backs.items c.args.self.now.write_backs c.is_empty.result
    (ap (λ b. b.write_backs) c.self.view_is) c.is_empty.ensures
