use Rattle.std.proofs.Common.{◌≡◌, List, Some, subst, sym}
use Rattle.std.specs.Prelude.{slice_get}
use Rattle.receipt_ledger.specs.History.{request_of}
use Rattle.receipt_ledger.specs.Port.{IsEntryOf}
use Rattle.slice_log.specs.declared.entry.Entry.{Entry}
use Rattle.receipt_ledger.proofs.book.Book.give_done.Goals as goal

pub perform-requires-clause-own : goal.perform-requires-clause-own
perform-requires-clause-own g c =
    subst
    (λ (log : List Entry).
    (e : Entry) → slice_get log c.args.number ≡ Some e
    → IsEntryOf g.N.SliceNames.setup g.N.SliceNames.number c.args.port.now.core e)
    (sym c.log.ensures.log) c.requires.own

pub perform-requires-clause-named : goal.perform-requires-clause-named
perform-requires-clause-named g c =
    subst
    (λ (log : List Entry). (e : Entry) → slice_get log c.args.number ≡ Some e → request_of e ≡ c.args.request)
    (sym c.log.ensures.log) c.requires.named
