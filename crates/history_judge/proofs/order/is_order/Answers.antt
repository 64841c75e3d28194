use Rattle.std.proofs.Common.{◌↔◌, IsTrue}
use Rattle.std.proofs.lemmas.Result.{IfOk-weaker}
use Rattle.slice_log.specs.Log.{initially}
use Rattle.history_judge.specs.Order.{IsOrderOf}
use Rattle.history_judge.proofs.Checks.{is_order_of}
use Rattle.history_judge.proofs.order.is_order.Goals as goal

pub returns : goal.returns
returns c =
    let initial = initially c.args.initial.now in
    let history = c.args.history.now in
    let order = c.args.order.now in
    let each = c.in_ok-has_each_once.ensures.0 c.if-not-branch.false in
    let cores = (c.in_ok-keeps_cores.ensures each).0 c.if-not-branch-2.false in
    let intervals = (c.keeps_intervals.ensures each).0 c.if-not-keeps_intervals.false in
    IfOk-weaker c.explains_replies.result _ (λ yes. IsTrue yes ↔ IsOrderOf initial history order)
    (λ yes legal. is_order_of initial history order (IsTrue yes) each cores intervals (legal each))
    c.explains_replies.ensures
