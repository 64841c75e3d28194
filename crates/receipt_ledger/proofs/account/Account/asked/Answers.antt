use Rattle.std.proofs.Common.{◌∙◌, List, Some, ap, subst, sym}
use Rattle.std.specs.Prelude.{slice_get}
use Rattle.receipt_ledger.proofs.Streaks.{asks-at, asks-past, begun-some, begun-streak}
use Rattle.receipt_ledger.specs.Account.{AccountView, IsTold, told_in}
use Rattle.receipt_ledger.specs.declared.account.Streak.{Streak}
use Rattle.receipt_ledger.specs.declared.receipt.Ask.{Ask}
use Rattle.receipt_ledger.specs.declared.receipt.Receipt.{Receipt}
use Rattle.receipt_ledger.proofs.account.Account.asked.Goals as goal

pub returns-then-self-seq : goal.returns-then-self-seq
returns-then-self-seq c =
    let had = c.self.inside in
    sym (ap (λ (v : AccountView). slice_get v.asked c.args.seq) (sym c.self.view_is)
    ∙ asks-past had.streaks.items had.accepted had.receipts.items c.args.seq c.if-self-seq.true)

pub overflow_sub-begun : goal.overflow_sub-begun
overflow_sub-begun c =
    let had = c.self.inside in
    begun-some had.streaks.items had.accepted had.receipts.items c.self.invariant c.args.seq c.begun-begun.result _
    c.deref.ensures.value c.if-self-seq.false c.begun-begun.ensures.later

pub told_in-requires : goal.told_in-requires
told_in-requires c =
    let had = c.self.inside in
    subst (λ (receipts : List Receipt). IsTold receipts c.index.result.now c.args.seq) (sym c.deref-2.ensures.value)
    (subst (λ (s : Streak). IsTold c.self.inside.receipts.items s c.args.seq)
    (begun-streak had.streaks.items had.accepted had.receipts.items c.self.invariant c.args.seq c.begun-begun.result _ _
    c.deref.ensures.value c.if-self-seq.false c.begun-begun.ensures.within c.begun-begun.ensures.begun
    c.begun-begun.ensures.later c.index.ensures)
    (c.self.invariant.told c.args.seq c.if-self-seq.false))

pub returns : goal.returns
returns c =
    let had = c.self.inside in
    sym (ap (λ (v : AccountView). slice_get v.asked c.args.seq) (sym c.self.view_is)
    ∙ asks-at had.streaks.items had.accepted had.receipts.items c.args.seq c.if-self-seq.false
    ∙ ap (λ (s : Streak). Some (told_in had.receipts.items s c.args.seq))
    (begun-streak had.streaks.items had.accepted had.receipts.items c.self.invariant c.args.seq c.begun-begun.result _ _
    c.deref.ensures.value c.if-self-seq.false c.begun-begun.ensures.within c.begun-begun.ensures.begun
    c.begun-begun.ensures.later c.index.ensures)
    ∙ ap (λ (receipts : List Receipt). Some (told_in receipts c.index.result.now c.args.seq))
    (sym c.deref-2.ensures.value)
    ∙ ap (λ (a : Ask). Some a) (sym c.told_in.ensures))
