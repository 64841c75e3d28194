use Rattle.std.proofs.Common.{eq-eqb, eqb-true, subst}
use Rattle.slice_queues.specs.Count.{IsMailCounted}
use Rattle.slice_queues.proofs.CountLaws.{none-waiting, no_mail-from_count}
use Rattle.slice_queues.proofs.lines.Lines.is_quiet.Goals as goal

pub returns : goal.returns
returns c =
    let heads = c.self.inside.heads.items.items in
    let waiting = c.self.inside.waiting in
    let counted : IsMailCounted heads c.args.self.now waiting =
    subst (λ lines. IsMailCounted heads lines waiting) c.self.view_is c.self.invariant.1 in (
      (λ zero. no_mail-from_count heads c.args.self.now waiting counted (eqb-true _ _ zero)),
      (λ quiet. eq-eqb _ _ (none-waiting heads c.args.self.now waiting counted quiet)),
    )
