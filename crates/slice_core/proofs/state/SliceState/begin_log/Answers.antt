use Rattle.std.proofs.Common.{subst}
use Rattle.slice_core_spec.specs.Calls.{PartsView}
use Rattle.slice_core_exec.specs.NewLog.{with_new_log, words_now}
use Rattle.slice_core.specs.Facts.{Holds, IsSameSlice}
use Rattle.slice_core.specs.NewLog.{BeginsAnew}
use Rattle.slice_core.proofs.Coherent.{holds}
use Rattle.slice_core.proofs.NewLog.{begins-anew, same-new_log, sound-new_log}
use Rattle.slice_core.proofs.state.SliceState.begin_log.Goals as goal

pub returns-then-not-is_quiet-clause-holds : goal.returns-then-not-is_quiet-clause-holds
returns-then-not-is_quiet-clause-holds g c =
    subst Holds c.self.view_is (holds c.self.inside.parts c.self.invariant)

pub returns-in_err-begin_log-clause-holds : goal.returns-in_err-begin_log-clause-holds
returns-in_err-begin_log-clause-holds g c =
    rw c.in_err-begin_log.ensures.unchanged (holds c.self.inside.parts c.self.invariant)

pub invariant_of-self-2 : goal.invariant_of-self-2
invariant_of-self-2 g c =
    let quiet = c.is_quiet.ensures.0 c.if-not-is_quiet.false in
    rw c.in_ok-begin_log.ensures.begun (sound-new_log c.self.inside.parts c.self.invariant quiet)

pub returns-clause-anew : goal.returns-clause-anew
returns-clause-anew g c =
    let quiet = c.is_quiet.ensures.0 c.if-not-is_quiet.false in
    let parts = c.self.inside.parts in
    rw c.in_ok-begin_log.ensures.begun
    (subst (λ (p : PartsView). BeginsAnew p (with_new_log parts)) c.self.view_is
    (begins-anew parts c.self.invariant quiet))

pub returns-clause-same : goal.returns-clause-same
returns-clause-same g c =
    let quiet = c.is_quiet.ensures.0 c.if-not-is_quiet.false in
    let parts = c.self.inside.parts in
    rw c.in_ok-begin_log.ensures.begun
    (subst
    (λ (p : PartsView).
    IsSameSlice (record p { view = record p.view { init = words_now parts.view } }) (with_new_log parts))
    c.self.view_is (same-new_log parts c.self.invariant quiet))

pub returns-clause-holds : goal.returns-clause-holds
returns-clause-holds g c =
    let quiet = c.is_quiet.ensures.0 c.if-not-is_quiet.false in
    rw c.in_ok-begin_log.ensures.begun
    (holds (with_new_log c.self.inside.parts) (sound-new_log c.self.inside.parts c.self.invariant quiet))
