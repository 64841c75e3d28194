use Rattle.std.proofs.Common.{[], ◌∷◌, subst, sym}
use Rattle.receipt_ledger.proofs.Last.{done-number, last-done}
use Rattle.slice_core_theory.specs.SmallMachine.{accept, hand, perform}
use Rattle.slice_core_theory.specs.Shows.{Leads, next_of}
use Rattle.receipt_ledger.proofs.book.Book.accept.Goals as goal

pub returns-in-Ok-Done-clause-port : goal.returns-in-Ok-Done-clause-port
returns-in-Ok-Done-clause-port g c =
    let done = c.in-Ok-Done in
    let told = rw done.field-0-is at done.ensures.port in
    last-done c.args.port.now c.ask.new.port c.args.request done.field-0-0 c.last.result told c.last.ensures

pub returns-in-Ok-Done-clause-machine : goal.returns-in-Ok-Done-clause-machine
returns-in-Ok-Done-clause-machine g c =
    let done = c.in-Ok-Done in
    let told = rw done.field-0-is at done.ensures in
    let old = c.args.state.now.view in
    let asked = next_of old c.args.port.now.core c.args.request in
    subst (λ number. Leads (accept asked ∷ perform asked ∷ hand number ∷ []) old c.ask.new.state.view)
    (sym (done-number c.args.port.now c.ask.new.port c.args.request done.field-0-0 c.last.result
    told.port c.last.ensures))
    told.machine
