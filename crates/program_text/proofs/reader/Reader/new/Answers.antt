use Rattle.std.proofs.Common.{ap, arith, length, refl}
use Rattle.program_text.proofs.ReadingLemmas.{checked_err, checked_ok, config_fault}
use Rattle.program_text.proofs.reader.Reader.new.Goals as goal

pub returns-in-Err-clause-fault : goal.returns-in-Err-clause-fault
returns-in-Err-clause-fault c = λ all left reading others.
    config_fault all left c.args.settings c.in-Err.error reading others
    (checked_err c.args.settings.config c.in-Err.error c.in-Err.ensures.value)

pub returns-clause-counted : goal.returns-clause-counted
returns-clause-counted c =
    let ok = checked_ok c.args.settings.config c.in-Ok.config c.in-Ok.ensures.value in
    record {
      count = rw c.new.ensures.items refl;
      few = omega arith;
      begun = λ some. absurd (omega (arith, some, ap length c.new-2.ensures));
      checked = rw ok.0 ok.1;
      allowed = rw ok.0 c.in-Ok.ensures.allowed;
    }
