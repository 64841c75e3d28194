use Rattle.std.proofs.Common.{◌≡◌, ◌∙◌, false, true, sym, refl, rules}
use Rattle.slice_queues.specs.Pick.{line_of}
use Rattle.slice_queues.specs.Slice.{HasLine}
use Rattle.slice_queues.proofs.SliceLaws.{takes_only_in, messages_in-absent, after_take_in-absent}
use Rattle.slice_queues.proofs.queues.Queues.take.Goals as goal

pub returns-then-has_line-clause-rest : goal.returns-then-has_line-clause-rest
returns-then-has_line-clause-rest c =
    let there : HasLine c.args.self.now.channels (line_of c.args.pick) = search rules in
    rw
    (c.take_at.ensures.after, c.place_of.ensures, c.channel.ensures, c.line-then-has_line.ensures)
    (takes_only_in
    _ _ _ there (rw (c.place_of.ensures, c.channel.ensures, c.line-then-has_line.ensures) at c.take_at.ensures.rest))

pub returns-else-has_line-clause-taken : goal.returns-else-has_line-clause-taken
returns-else-has_line-clause-taken c =
    let absent : HasLine c.args.self.now.channels (line_of c.args.pick) → ⊥ = λ there.
    let clash : false ≡ true = sym c.if-has_line.false ∙ c.has_line.ensures.1 (rw c.line.ensures there) in cc in
    rw (messages_in-absent c.args.self.now.channels c.args.pick absent) refl

pub returns-else-has_line-clause-rest : goal.returns-else-has_line-clause-rest
returns-else-has_line-clause-rest c =
    let absent : HasLine c.args.self.now.channels (line_of c.args.pick) → ⊥ = λ there.
    let clash : false ≡ true = sym c.if-has_line.false ∙ c.has_line.ensures.1 (rw c.line.ensures there) in cc in
    after_take_in-absent c.args.self.now.channels c.args.pick absent
