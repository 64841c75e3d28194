use Rattle.std.proofs.Common.{◌≡◌, ◌∙◌, arith, refl, sym}
use Rattle.litmus_walk.specs.Script.{status_of}
use Rattle.litmus_walk.specs.declared.round.End.{End}
use Rattle.litmus_walk.specs.declared.round.End.TheVariants as ends
use Rattle.litmus_walk.proofs.script.write_walk.Goals as goal

-- status 0 is that of a walk that is over
over_of : (end : End) → status_of end ≡ 0 → end ≡ ends.Over
over_of ends.Over zero = refl
over_of ends.Stuck zero = absurd (omega (arith, zero))
over_of ends.GaveUp zero = absurd (omega (arith, zero))

pub returns-clause-printed : goal.returns-clause-printed
returns-clause-printed g c =
    let end = c.in_ok-walked.walked.end in
    record {
      walk = c.in_ok-walked.walked.recorded;
      walked = c.in_ok-walked.ensures.walk;
      end = end;
      drawn = rw (c.deref.ensures.value, c.in_ok-lines.ensures) at c.in_ok-walked.ensures.drawn;
      told = c.status.ensures;
      over = λ zero. c.in_ok-walked.ensures.over (over_of end (sym c.status.ensures ∙ zero));
      done = λ zero. c.in_ok-walked.ensures.done (over_of end (sym c.status.ensures ∙ zero));
      printed = rw c.calls.ensures at c.in_ok-print_script.ensures.printed;
    }
