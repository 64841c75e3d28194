use Rattle.std.proofs.Common.{◌≡◌, ◌∙◌, false, true, sym, refl}
use Rattle.slice_queues.specs.Pick.{line_of}
use Rattle.slice_queues.specs.Slice.{HasLine}
use Rattle.slice_queues.proofs.SliceLaws.{messages_in-absent}
use Rattle.slice_queues.proofs.queues.Queues.front.Goals as goal

pub returns-else-has_line : goal.returns-else-has_line
returns-else-has_line c =
    let absent : HasLine c.args.self.now.channels (line_of c.args.pick) → ⊥ = λ there.
    let clash : false ≡ true = sym c.if-has_line.false ∙ c.has_line.ensures.1 (rw c.line.ensures there) in cc in
    rw (messages_in-absent c.args.self.now.channels c.args.pick absent) refl
