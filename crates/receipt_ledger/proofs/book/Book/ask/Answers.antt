use Rattle.std.proofs.Common.{ap, refl, subst, sym, ◌∙◌}
use Rattle.receipt_ledger.proofs.Last.{last-pushed}
use Rattle.receipt_ledger.proofs.Placed.{issued-judged}
use Rattle.receipt_ledger.proofs.Ports.{with-room}
use Rattle.receipt_ledger.proofs.Tied.{done-last, done-own, done-tied, pending-tied, same-tied}
use Rattle.receipt_ledger.specs.Answers.{IsGenuine, IsLastOf, receipt_of}
use Rattle.receipt_ledger.specs.Booked.{IsTied}
use Rattle.receipt_ledger.specs.History.{request_of}
use Rattle.receipt_ledger.specs.Port.{IsEntryOf, PortView, with_receipt, with_request}
use Rattle.receipt_ledger.specs.declared.receipt.Receipt.{Receipt}
use Rattle.slice_log.specs.declared.entry.Entry.{Entry}
use Rattle.receipt_ledger.proofs.book.Book.ask.Given.{Over}
use Rattle.receipt_ledger.proofs.book.Book.ask.Goals as goal

-- the receipt that is given at once
abbrev given : (g : Over) (c : goal.After-give_done g) → Receipt
given g c =
    receipt_of c.args.port.now.slice (record { number = c.in-Ok-Done.number; entry = c.give_done.ensures.entry })

pub give_done-requires-clause-own : goal.give_done-requires-clause-own
give_done-requires-clause-own g c e there =
    let setup = g.N.SliceNames.setup in
    let number = g.N.SliceNames.number in
    let told = rw c.in-Ok-Done.field-0-is at c.in-Ok-Done.ensures in
    subst (λ core. IsEntryOf setup number core e) c.core.ensures.core
    (done-own setup number c.args.self.now c.args.state.now c.issue.new.self c.requires c.core.result c.args.request
    c.in-Ok-Done.number told.step told.machine e there)

pub give_done-requires-clause-named : goal.give_done-requires-clause-named
give_done-requires-clause-named g c e there =
    let told = rw c.in-Ok-Done.field-0-is at c.in-Ok-Done.ensures in
    let last =
    done-last c.args.state.now c.issue.new.self c.core.result c.args.request c.in-Ok-Done.number
    told.step told.machine in
    ap request_of (last.is e there)

pub returns-in-Err-clause-judged : goal.returns-in-Err-clause-judged
returns-in-Err-clause-judged g c =
    issued-judged g.N.SliceNames.setup g.N.SliceNames.number c.args.state.now c.core.result c.args.request _
    c.issue.new.self c.requires.slice.allowed c.requires.slice.lines c.requires.slice.counters c.in-Err.ensures.step

pub returns-in-Ok-Done-clause-judged : goal.returns-in-Ok-Done-clause-judged
returns-in-Ok-Done-clause-judged g c =
    let told = rw c.in-Ok-Done.field-0-is at c.in-Ok-Done.ensures in
    issued-judged g.N.SliceNames.setup g.N.SliceNames.number c.args.state.now c.core.result c.args.request _
    c.issue.new.self c.requires.slice.allowed c.requires.slice.lines c.requires.slice.counters told.step

pub returns-in-Ok-Done-clause-genuine : goal.returns-in-Ok-Done-clause-genuine
returns-in-Ok-Done-clause-genuine g c last is =
    let port = c.make_room.new.self in
    let same =
    last-pushed port.receipts
    (receipt_of port.slice (record { number = c.in-Ok-Done.number; entry = c.give_done.ensures.entry })) last
    (subst (λ (p : PortView). IsLastOf p.receipts last) c.give_done.ensures.port is)
    in
    subst (IsGenuine c.issue.new.self.view.log) (sym same) c.give_done.ensures.there

pub returns-in-Ok-Done-clause-port : goal.returns-in-Ok-Done-clause-port
returns-in-Ok-Done-clause-port g c =
    let told = rw c.in-Ok-Done.field-0-is at c.in-Ok-Done.ensures in
    let last =
    done-last c.args.state.now c.issue.new.self c.core.result c.args.request c.in-Ok-Done.number
    told.step told.machine in
    let is = last.is c.give_done.ensures.entry c.give_done.ensures.there in
    let same = c.make_room.ensures.same in (
      given g c,
      record {
        of = record {
          slice = refl;
          core = ap (λ (e : Entry). e.core) is ∙ c.core.ensures.core ∙ ap (λ (p : PortView). p.core) same;
        };
        tag = ap (λ (e : Entry). e.tag) is;
        word = ap (λ (e : Entry). e.word) is;
        op = ap (λ (e : Entry). e.op) is;
      },
      refl,
      with-room (with_receipt (with_request c.args.port.now c.args.request) (given g c)) c.give_done.new.port
          c.give_done.new.port.room
          (c.give_done.ensures.port
          ∙ ap
          (λ p. record (with_receipt (with_request p c.args.request)
          (receipt_of p.slice (record { number = c.in-Ok-Done.number; entry = c.give_done.ensures.entry }))) {
            room = c.give_done.new.port.room;
          }) same),
    )

pub returns-in-Ok-Done-clause-tied : goal.returns-in-Ok-Done-clause-tied
returns-in-Ok-Done-clause-tied g c =
    let setup = g.N.SliceNames.setup in
    let number = g.N.SliceNames.number in
    let new = c.issue.new.self in
    let told = rw c.in-Ok-Done.field-0-is at c.in-Ok-Done.ensures in
    subst (λ t. IsTied setup number t new)
    (sym c.give_done.ensures.totals)
    (done-tied setup number c.args.self.now c.args.state.now new c.requires c.core.result c.args.request
    c.in-Ok-Done.number c.give_done.ensures.entry told.step told.same told.machine c.give_done.ensures.there)

pub returns-in-Ok-Pending-clause-tied : goal.returns-in-Ok-Pending-clause-tied
returns-in-Ok-Pending-clause-tied g c =
    let setup = g.N.SliceNames.setup in
    let number = g.N.SliceNames.number in
    let new = c.issue.new.self in
    let told = rw c.in-Ok-Pending.field-0-is at c.in-Ok-Pending.ensures in
    subst (λ t. IsTied setup number t new) (sym c.count.ensures.book)
    (pending-tied setup number c.args.self.now c.args.state.now new c.requires c.core.result c.args.request
    c.in-Ok-Pending.seq told.step told.same told.machine)

pub returns-in-Ok-Stall-clause-tied : goal.returns-in-Ok-Stall-clause-tied
returns-in-Ok-Stall-clause-tied g c =
    let told = rw c.in-Ok-Stall.field-0-is at c.in-Ok-Stall.ensures in
    same-tied g.N.SliceNames.setup g.N.SliceNames.number c.args.self.now c.args.state.now c.issue.new.self c.requires
    told.same told.machine

pub returns-in-Err-clause-tied : goal.returns-in-Err-clause-tied
returns-in-Err-clause-tied g c =
    same-tied g.N.SliceNames.setup g.N.SliceNames.number c.args.self.now c.args.state.now c.issue.new.self c.requires
    c.in-Err.ensures.same c.in-Err.ensures.machine
