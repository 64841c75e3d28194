use Rattle.std.proofs.Common.{map, rules}
use Rattle.receipt_ledger.proofs.Settled.{settled}
use Rattle.receipt_ledger.specs.History.{AreHeld}
use Rattle.slice_core_spec.specs.View.{IsQuiet}
use Rattle.receipt_ledger.proofs.book.Book.settle.Goals as goal

pub returns-clause-settled : goal.returns-clause-settled
returns-clause-settled g c =
    let quiet : IsQuiet c.args.state.now.view = search rules in
    let held : AreHeld (map g.T.Lends.part c.args.ports.now) c.args.state.now.view.log = search rules in
    settled g.N.SliceNames.setup g.N.SliceNames.number c.args.self.now c.args.state.now
    (map g.T.Lends.part c.args.ports.now) c.values.result.items c.requires.tied quiet held c.log.ensures.holds.legal
    c.log.ensures.holds.ordered c.compare.ensures.held c.values.ensures
