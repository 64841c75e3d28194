use Rattle.std.proofs.Common.{refl}
use Rattle.script_explained.proofs.stepper.StepperDeliverer.deliver_next.Goals as goal

pub returns-clause-delivers : goal.returns-clause-delivers
returns-clause-delivers g c =
    let made = c.deliver_next-answer.ensures in (
      made.config,
      refl,
      record {
        made = c.deliver_next-answer.result.1;
        goes = made.made;
        written = rw made.config at c.in_ok-write_made.ensures.written;
      },
    )
