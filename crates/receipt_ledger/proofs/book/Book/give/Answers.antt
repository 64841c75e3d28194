use Rattle.std.proofs.Common.{◌≡◌, List, Some, subst, sym}
use Rattle.std.specs.Prelude.{slice_get}
use Rattle.receipt_ledger.specs.Port.{IsEntryOf}
use Rattle.slice_log.specs.declared.entry.Entry.{Entry}
use Rattle.receipt_ledger.proofs.book.Book.give.Goals as goal

pub receive-requires-clause-own : goal.receive-requires-clause-own
receive-requires-clause-own g c =
    subst
    (λ (log : List Entry).
    (e : Entry) → slice_get log c.args.number ≡ Some e
    → IsEntryOf g.N.SliceNames.setup g.N.SliceNames.number c.args.port.now.core e)
    (sym c.log.ensures.log) c.requires.own
