use Rattle.litmus_text.specs.Command.{HasPick}
use Rattle.slice_queues.specs.declared.channel.Pick.TheVariants as picks
use Rattle.litmus_text.proofs.ChannelLemmas.{ack_fault, data_fault, fwd_fault, home_fault, reads_none, req_fault}
use Rattle.litmus_text.proofs.FaultLemmas.{lacks_one, lacks_three}
use Rattle.litmus_text.proofs.channel.parse_pick_called.Goals as goal

pub returns-in_err-line-in-Req : goal.returns-in_err-line-in-Req
returns-in_err-line-in-Req c =
    rw c.in-Req.is
    (reads_none _ c.from_residual.result c.from_residual.ensures.1
    (req_fault _ _ _ c.in_err-line-in-Req.ensures.fault))

pub returns-in_err-line-in-Fwd : goal.returns-in_err-line-in-Fwd
returns-in_err-line-in-Fwd c =
    rw c.in-Fwd.is
    (reads_none _ c.from_residual-in_err-line-in-Fwd.result c.from_residual-in_err-line-in-Fwd.ensures.1
    (fwd_fault _ _ _ c.in_err-line-in-Fwd.ensures.fault))

pub returns-in_err-line-in-Data : goal.returns-in_err-line-in-Data
returns-in_err-line-in-Data c =
    rw c.in-Data.is
    (reads_none _ c.from_residual-in_err-line-in-Data.result c.from_residual-in_err-line-in-Data.ensures.1
    (data_fault _ _ _ c.in_err-line-in-Data.ensures.fault))

pub returns-in_err-line-in-Ack : goal.returns-in_err-line-in-Ack
returns-in_err-line-in-Ack c =
    rw c.in-Ack.is
    (reads_none _ c.from_residual-in_err-line-in-Ack.result c.from_residual-in_err-line-in-Ack.ensures.1
    (ack_fault _ _ _ (λ p has. tt) _ c.in_err-line-in-Ack.ensures.fault))

pub returns-in_err-line_in-in-Ack : goal.returns-in_err-line_in-in-Ack
unfolding HasPick
returns-in_err-line_in-in-Ack c =
    rw c.in-Ack.is
    (reads_none _ c.from_residual-in_err-line_in-in-Ack.result c.from_residual-in_err-line_in-in-Ack.ensures.1
    (ack_fault c.args.config.now _
    (λ p. HasPick c.args.config.now (picks.Ack (record { 0 = p.0 }) (record { 0 = p.1 }) (record { 0 = p.2 })))
    (λ p has. has) _
    (lacks_three _ _ _ _ _ c.in_ok-line-in-Ack.ensures.written c.in_ok-line-in-Ack.ensures.only
    (λ has. c.in_err-line_in-in-Ack.ensures.ok has.0) _ c.in_err-line_in-in-Ack.ensures.err)))

pub returns-in_err-core_in-in-Ack : goal.returns-in_err-core_in-in-Ack
unfolding HasPick
returns-in_err-core_in-in-Ack c =
    rw c.in-Ack.is
    (reads_none _ c.from_residual-in_err-core_in-in-Ack.result c.from_residual-in_err-core_in-in-Ack.ensures.1
    (ack_fault c.args.config.now _
    (λ p. HasPick c.args.config.now (picks.Ack (record { 0 = p.0 }) (record { 0 = p.1 }) (record { 0 = p.2 })))
    (λ p has. has) _
    (lacks_three _ _ _ _ _ c.in_ok-line-in-Ack.ensures.written c.in_ok-line-in-Ack.ensures.only
    (λ has. c.in_err-core_in-in-Ack.ensures.ok has.1) _ c.in_err-core_in-in-Ack.ensures.err)))

pub returns-in_err-core_in-in-Ack-2 : goal.returns-in_err-core_in-in-Ack-2
unfolding HasPick
returns-in_err-core_in-in-Ack-2 c =
    rw c.in-Ack.is
    (reads_none _ c.from_residual-in_err-core_in-in-Ack-2.result c.from_residual-in_err-core_in-in-Ack-2.ensures.1
    (ack_fault c.args.config.now _
    (λ p. HasPick c.args.config.now (picks.Ack (record { 0 = p.0 }) (record { 0 = p.1 }) (record { 0 = p.2 })))
    (λ p has. has) _
    (lacks_three _ _ _ _ _ c.in_ok-line-in-Ack.ensures.written c.in_ok-line-in-Ack.ensures.only
    (λ has. c.in_err-core_in-in-Ack-2.ensures.ok has.2) _ c.in_err-core_in-in-Ack-2.ensures.err)))

pub returns-in_err-line-in-Home : goal.returns-in_err-line-in-Home
returns-in_err-line-in-Home c =
    rw c.in-Home.is
    (reads_none _ c.from_residual-in_err-line-in-Home.result c.from_residual-in_err-line-in-Home.ensures.1
    (home_fault _ _ _ (λ p has. tt) _ c.in_err-line-in-Home.ensures.fault))

pub returns-in_err-line_in-in-Home : goal.returns-in_err-line_in-in-Home
unfolding HasPick
returns-in_err-line_in-in-Home c =
    rw c.in-Home.is
    (reads_none _ c.from_residual-in_err-line_in-in-Home.result c.from_residual-in_err-line_in-in-Home.ensures.1
    (home_fault c.args.config.now _ (λ p. HasPick c.args.config.now (picks.Home (record { 0 = p }))) (λ p has. has) _
    (lacks_one _ _ _ c.in_ok-line-in-Home.ensures.written c.in_ok-line-in-Home.ensures.only
    (λ has. c.in_err-line_in-in-Home.ensures.ok has) _ c.in_err-line_in-in-Home.ensures.err)))
