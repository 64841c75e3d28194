use Rattle.std.proofs.Common.{◌≡◌, ℕ, ◌↔◌, IsTrue, subst, false, get_or}
use Rattle.slice_queues.specs.Line.{IsEmptyLine, has_mail, empty_line}
use Rattle.slice_queues.specs.Slice.{at_local, IsEmptySlice}
use Rattle.slice_queues.specs.Ring.{QueuesView}
use Rattle.slice_queues.proofs.MailLaws.{IsEmptyLine-from_no_mail, no_mail-from_IsEmptyLine}
use Rattle.slice_queues.proofs.SliceLaws.{IsEmptySlice-from_lines, lines-from_IsEmptySlice}
use Rattle.slice_queues.proofs.queues.Queues.is_empty.Goals as goal

pub returns-clause-lines : goal.returns-clause-lines
returns-clause-lines c =
    let lines = c.self.inside.lines in
    let is : IsTrue c.is_quiet.result ↔ ((local : ℕ) → has_mail (get_or lines local (empty_line 0)) ≡ false) =
    c.is_quiet.ensures in
    let P : QueuesView → Type 0 =
    λ queues. IsTrue c.is_quiet.result ↔ ((local : ℕ) → IsEmptyLine (at_local queues.channels local)) in
    subst P c.self.view_is (
      (λ zero local. IsEmptyLine-from_no_mail (get_or lines local (empty_line 0)) (is.0 zero local)),
      (λ empty. is.1 (λ local. no_mail-from_IsEmptyLine (get_or lines local (empty_line 0)) (empty local))),
    )

pub returns-clause-slice : goal.returns-clause-slice
returns-clause-slice c =
    let P : QueuesView → Type 0 = λ queues.
    (IsTrue c.is_quiet.result ↔ ((local : ℕ) → IsEmptyLine (at_local queues.channels local))) →
    IsTrue c.is_quiet.result ↔ IsEmptySlice queues.channels in
    subst P c.self.view_is (λ lines. (
      (λ zero. IsEmptySlice-from_lines _ (lines.0 zero)),
      (λ empty. lines.1 (lines-from_IsEmptySlice _ c.self.invariant.machine.slice empty)),
    )) (returns-clause-lines c)
