use Rattle.std.proofs.Common.{[], ◌∷◌, ◌++◌, ◌<◌, ◌∙◌, ap, arith, length, subst, sym}
use Rattle.std.specs.Prelude.{vec_capacity}
use Rattle.receipt_ledger.proofs.Streaks.{asks_long, keep-account, keep-streaks, room-left}
use Rattle.receipt_ledger.specs.Account.{AccountView}
use Rattle.receipt_ledger.proofs.account.Account.keep.Goals as goal

pub push_reserved-requires : goal.push_reserved-requires
push_reserved-requires c =
    let had = c.self.inside in
    rw (had.streaks.ok.0)
    (room-left had.streaks.items had.accepted had.receipts.items c.self.invariant (vec_capacity had.streaks)
    (vec_capacity had.receipts)
    (subst (λ (v : AccountView). length v.asked < v.room.asked) (sym c.self.view_is) c.requires.asked_room))

pub overflow_add-self : goal.overflow_add-self
overflow_add-self c =
    let had = c.self.inside in
    let long = asks_long had.streaks.items had.accepted had.receipts.items in
    let roomy =
    subst (λ (v : AccountView). length v.asked < v.room.receipts) (sym c.self.view_is) c.requires.receipts_room in
    let room = c.capacity-room.ensures in
    let small = c.capacity-room.type_inv in
    omega (arith, long, roomy, room, small)

pub invariant_of-self : goal.invariant_of-self
invariant_of-self c =
    let had = c.self.inside in
    rw (c.push_reserved.ensures.items, c.len.ensures ∙ had.receipts.ok.0)
    (keep-streaks had.streaks.items had.accepted had.receipts.items c.self.invariant c.args.ask)

pub returns : goal.returns
returns c =
    let had = c.self.inside in
    rw (
      c.push_reserved.ensures.items,
      c.push_reserved.ensures.capacity,
      c.len.ensures ∙ had.receipts.ok.0,
    )
    (keep-account had.streaks.items had.accepted had.receipts.items c.self.invariant (vec_capacity had.streaks)
    (vec_capacity had.receipts) c.args.ask
    (subst (λ (v : AccountView). length v.asked < v.room.asked) (sym c.self.view_is) c.requires.asked_room)
    ∙ ap (λ (v : AccountView). record v { asked = v.asked ++ c.args.ask ∷ [] }) c.self.view_is)
