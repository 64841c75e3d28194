use Rattle.std.proofs.Common.{[], ◌∷◌, map, refl, subst, sym}
use Rattle.slice_core.proofs.Runs.{one_run}
use Rattle.slice_core.proofs.state.SliceState.call.Goals as goal
use Rattle.slice_core.specs.Run.{IsOneRun}
use Rattle.slice_core.specs.declared.run.Call.TheVariants as slice_calls
use Rattle.slice_core.specs.declared.run.CallAnswer.TheVariants as call_answers
use Rattle.slice_core_theory.specs.SmallMachine.{perform}

pub returns-in-Deliver-clause-machine : goal.returns-in-Deliver-clause-machine
returns-in-Deliver-clause-machine g c =
    let made = c.deliver.ensures in
    subst (λ call. IsOneRun c.args.self.now (call ∷ []) (call_answers.Deliver c.deliver.result ∷ []) c.deliver.new.self)
    (sym c.in-Deliver.is)
    (one_run c.args.self.now (slice_calls.Deliver c.in-Deliver.pick) (call_answers.Deliver c.deliver.result)
    c.deliver.new.self
    (map perform made.machine.requests) made.step (made.machine, refl) made.machine.leads)

pub returns-in-DeliverNext-clause-machine : goal.returns-in-DeliverNext-clause-machine
returns-in-DeliverNext-clause-machine g c =
    let made = c.deliver_next.ensures in
    subst
    (λ call.
    IsOneRun c.args.self.now (call ∷ []) (call_answers.DeliverNext c.deliver_next.result ∷ []) c.deliver_next.new.self)
    (sym c.in-DeliverNext.is)
    (one_run c.args.self.now (slice_calls.DeliverNext c.in-DeliverNext.class)
    (call_answers.DeliverNext c.deliver_next.result)
    c.deliver_next.new.self (map perform made.machine.requests) made.step (made.machine, refl) made.machine.leads)
