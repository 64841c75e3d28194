use Rattle.std.proofs.Common.{List, ℕ, inr, subst}
use Rattle.std.proofs.lemmas.Result.{IfErr-weaker, IfOk-weaker}
use Rattle.litmus.specs.Views.{HasView, HasViewFault}
use Rattle.litmus.proofs.views.view_schedule.Goals as goal

pub returns-in-Ok-clause-done : goal.returns-in-Ok-clause-done
returns-in-Ok-clause-done g c =
    let contents = g.W.Write.contents in
    let read = c.in-Ok.ensures.done in
    IfOk-weaker c.write_view.result _ _ (λ status made. (
      read.0,
      read.1,
      record {
        script = c.write_schedule.new.out.items;
        printed = rw made.0 read.2;
        shown = subst
            (λ (s : List ℕ). HasView c.args.view s (contents c.args.out.now) (contents c.write_view.new.out))
            c.as_slice.ensures.value made.1;
      },
    )) c.write_view.ensures.view

pub returns-in-Ok-clause-fault : goal.returns-in-Ok-clause-fault
returns-in-Ok-clause-fault g c =
    let read = c.in-Ok.ensures.done in
    IfErr-weaker c.write_view.result _ _ (λ fault cut. inr (
      c.in-Ok.status,
      read.0,
      read.1,
      record {
        script = c.write_schedule.new.out.items;
        printed = read.2;
        cut = subst (λ (s : List ℕ). HasViewFault c.args.view s fault) c.as_slice.ensures.value cut;
      },
    )) c.write_view.ensures.fault
