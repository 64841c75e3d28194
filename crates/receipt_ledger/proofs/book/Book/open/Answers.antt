use Rattle.std.proofs.Common.{subst, sym}
use Rattle.std.specs.Box.{boxed_slice_items}
use Rattle.receipt_ledger.proofs.New.{new-tied}
use Rattle.receipt_ledger.specs.Booked.{IsTied}
use Rattle.receipt_ledger.proofs.CounterWords.{counters_allowed}
use Rattle.receipt_ledger.specs.Names.{AreCounters}
use Rattle.receipt_ledger.specs.Totals.{nothing}
use Rattle.receipt_ledger.proofs.book.Book.open.Goals as goal

pub invariant_of-result : goal.invariant_of-result
invariant_of-result g c =
    let words = boxed_slice_items c.in_ok-counters.counters in
    subst (λ setup. AreCounters setup g.N.SliceNames.number words) c.requires.setup
    (subst (λ number. AreCounters c.args.config.now number words) c.requires.number
    (counters_allowed c.args.config.now c.args.slice.0 words c.cores.ensures.allowed c.in_ok-counters.ensures))

pub returns-clause-tied : goal.returns-clause-tied
returns-clause-tied g c =
    let number = g.N.SliceNames.number in
    let state = c.in_ok-state.state in
    subst (λ t. IsTied g.N.SliceNames.setup number t state) (sym c.open-books.ensures.books)
    (subst (λ setup. IsTied setup number nothing state) c.requires.setup
    (subst (λ n. IsTied c.args.config.now n nothing state) c.requires.number
    (new-tied c.args.config.now _ c.args.slice state c.requires.slice c.in_ok-state.ensures.new
    c.in_ok-state.ensures.machine)))
