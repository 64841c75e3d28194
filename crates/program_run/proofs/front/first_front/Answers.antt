use Rattle.std.proofs.Common.{◌∙◌, arith, sym}
use Rattle.program_run.proofs.FrontLemmas.{front-found, front-more, front-past, within-front}
use Rattle.program_run.proofs.front.first_front.Goals as goal

pub returns-in-Waits-clause-front : goal.returns-in-Waits-clause-front
returns-in-Waits-clause-front c =
    let p = c.args.state.now in
    let line = c.in-Some.line in
    let is = rw c.in-Waits.is at c.front_of.ensures in
    front-found p c.loop-line.idle line c.in-Waits.pick c.log.ensures.holds (sym c.in-Some.is ∙ c.ring_line.ensures) is

pub loop-line-preserved : goal.loop-line-preserved
loop-line-preserved c =
    let p = c.args.state.now in
    let line = c.in-Some.line in
    let is = rw c.in-Idle-2.is at c.front_of.ensures in
    front-more p c.loop-line.idle line c.log.ensures.holds c.loop-line.invariant
    (sym c.in-Some.is ∙ c.ring_line.ensures) is

pub loop-line-smaller : goal.loop-line-smaller
loop-line-smaller c =
    let within = within-front c.args.state.now c.loop-line.idle c.in-Some.line (sym c.in-Some.is ∙ c.ring_line.ensures) in
    omega (arith, within)

pub returns-clause-front : goal.returns-clause-front
returns-clause-front c =
    front-past c.args.state.now c.loop-line.idle c.loop-line.invariant (sym c.in_default.is ∙ c.ring_line.ensures)
