use Rattle.std.proofs.Common.{◌≡◌, ◌<◌, ◌∙◌, ap, arith, length, get_or, ℕ, Bool}
use Rattle.slice_queues.specs.Line.{empty_line, has_mail}
use Rattle.slice_queues.proofs.RingLaws.{rotate-step, IsQueues-turn}
use Rattle.slice_queues.proofs.queues.Queues.rotate.Goals as goal

pub loop-turn-preserved : goal.loop-turn-preserved
loop-turn-preserved c =
    let now = c.loop-turn.self-inside in
    let queues = c.loop-turn.invariant.3 in
    let line : c.line.result ≡ get_or now.lines (get_or now.ring.order 0 0) (empty_line 0) =
    c.line.ensures
    ∙ ap (λ (l : ℕ). get_or now.lines l (empty_line 0)) c.at-first.ensures.line in
    let mail : ℕ → Bool = λ local. has_mail (get_or c.self.inside.lines local (empty_line 0)) in
    let says : c.has_mail-has_mail.result ≡ mail (get_or now.ring.order 0 0) =
    c.has_mail-has_mail.ensures
    ∙ ap has_mail line
    ∙ ap (λ lines. has_mail (get_or lines (get_or now.ring.order 0 0) (empty_line 0))) c.loop-turn.invariant.1 in
    let within : c.loop-turn.turn < length c.self.inside.ring.order =
    omega (arith, ap (λ v. length v.ring) c.self.view_is, c.requires, c.loop-turn-test.true) in (
      ap (λ r. r.order) c.turn.ensures
          ∙ rotate-step
          mail c.self.inside.ring.order now.ring.order c.loop-turn.turn c.has_mail-has_mail.result within
          c.loop-turn.invariant.0 says,
      c.loop-turn.invariant.1,
      c.loop-turn.invariant.2,
      IsQueues-turn
          now.lines now.ring _ now.locator c.line.result c.has_mail-has_mail.result line
          c.has_mail-has_mail.ensures c.turn.ensures queues,
    )
