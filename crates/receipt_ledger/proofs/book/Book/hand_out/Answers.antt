use Rattle.std.proofs.Common.{[], ◌∷◌, ap, subst, sym}
use Rattle.receipt_ledger.proofs.Last.{last-pushed}
use Rattle.receipt_ledger.proofs.Tied.{hand-own, hand-tied}
use Rattle.receipt_ledger.specs.Answers.{IsGenuine, IsLastOf, receipt_of}
use Rattle.receipt_ledger.specs.Booked.{IsTied}
use Rattle.receipt_ledger.specs.Port.{IsEntryOf, PortView}
use Rattle.receipt_ledger.specs.declared.receipt.Receipt.{Receipt}
use Rattle.slice_core_theory.specs.SmallMachine.{hand}
use Rattle.slice_core_theory.specs.Shows.{Leads}
use Rattle.receipt_ledger.proofs.book.Book.hand_out.Goals as goal

pub give-requires-clause-own : goal.give-requires-clause-own
give-requires-clause-own g c e there =
    subst (λ core. IsEntryOf g.N.SliceNames.setup g.N.SliceNames.number core e) c.core.ensures.core
    (hand-own g.N.SliceNames.setup g.N.SliceNames.number c.args.self.now c.args.state.now c.hand.new.self c.requires
    c.core.result c.in-Some.given c.in-Some.ensures.step c.in-Some.ensures.core c.in-Some.ensures.machine e there)

pub returns-in-Some-clause-genuine : goal.returns-in-Some-clause-genuine
returns-in-Some-clause-genuine g c =
    let port = c.args.port.now in
    let last = c.last.result in
    let is =
    last-pushed port.receipts
    (receipt_of port.slice (record { number = c.in-Some.given.number; entry = c.give.ensures.entry })) last
    (subst (λ (p : PortView). IsLastOf p.receipts last) c.give.ensures.port c.last.ensures)
    in
    subst (IsGenuine c.hand.new.self.view.log) (sym is) c.give.ensures.there

pub returns-in-Some-clause-machine : goal.returns-in-Some-clause-machine
returns-in-Some-clause-machine g c =
    let port = c.args.port.now in
    let last = c.last.result in
    let is =
    last-pushed port.receipts
    (receipt_of port.slice (record { number = c.in-Some.given.number; entry = c.give.ensures.entry })) last
    (subst (λ (p : PortView). IsLastOf p.receipts last) c.give.ensures.port c.last.ensures)
    in
    subst (λ number. Leads (hand number ∷ []) c.args.state.now.view c.hand.new.self.view)
    (sym (ap (λ (r : Receipt). r.number) is)) c.in-Some.ensures.machine

pub returns-in-Some-clause-tied : goal.returns-in-Some-clause-tied
returns-in-Some-clause-tied g c =
    let setup = g.N.SliceNames.setup in
    let number = g.N.SliceNames.number in
    let new = c.hand.new.self in
    subst (λ t. IsTied setup number t new) (sym c.give.ensures.totals)
    (hand-tied setup number c.args.self.now c.args.state.now new c.requires c.in-Some.given.number c.give.ensures.entry
    c.in-Some.ensures.same c.in-Some.ensures.machine c.give.ensures.there)
