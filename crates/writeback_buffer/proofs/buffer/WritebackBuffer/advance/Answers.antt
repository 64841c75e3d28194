use Rattle.std.proofs.Common.{◌≡◌, false, true, subst, sym, ◌∙◌}
use Rattle.std.specs.Prelude.{IsSome}
use Rattle.writeback_buffer.proofs.BufferLaws.{ChangesOnly-with_state, IsBuffer-with_state, held-missing}
use Rattle.writeback_buffer.proofs.BufferLaws.{with_state-written}
use Rattle.writeback_buffer.proofs.buffer.WritebackBuffer.advance.Goals as goal

pub unreachable-requires : goal.unreachable-requires
unreachable-requires c =
    let missing = held-missing c.args.self.now c.args.line.0 (sym c.place_of.ensures.place ∙ c.in_default.is) in
    let nothing_held : false ≡ true = subst IsSome missing c.requires.held in
    cc

pub returns-clause-advanced : goal.returns-clause-advanced
returns-clause-advanced c =
    with_state-written _ c.args.self.now c.args.line.0 c.in-Some.place c.args.state c.deref_mut.result.now _
    c.self.view_is
    c.deref_mut.ensures.value c.place_of.ensures.sound (sym c.place_of.ensures.place ∙ c.in-Some.is)

pub invariant_of-self : goal.invariant_of-self
invariant_of-self c =
    IsBuffer-with_state c.args.self.now _ c.args.line.0 c.args.state c.place_of.ensures.sound
    (returns-clause-advanced c)

pub returns-clause-kept : goal.returns-clause-kept
returns-clause-kept c = ChangesOnly-with_state c.args.self.now _ c.args.line.0 c.args.state (returns-clause-advanced c)
