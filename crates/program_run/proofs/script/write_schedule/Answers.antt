use Rattle.std.proofs.Common.{ℕ}
use Rattle.std.proofs.lemmas.Result.{IfOk-weaker}
use Rattle.mshr_file.specs.Miss.{bound_of}
use Rattle.program_text.specs.Fault.{IsProgramText, programs_of, settings_of}
use Rattle.program_text.specs.declared.programs.Programs.{Programs}
use Rattle.program_run.specs.Run.{PrintsSchedule, limited_to}
use Rattle.program_run.proofs.script.write_schedule.Goals as goal

pub returns-clause-done : goal.returns-clause-done
returns-clause-done g c =
    let contents = g.W.Write.contents in
    let says = λ (programs : Programs). IsProgramText c.args.input.now (settings_of programs) programs.limits
    (programs_of programs) in
    let prints = λ (programs : Programs) (status : ℕ). PrintsSchedule (bound_of programs.misses programs.config)
    (limited_to c.args.given programs) c.args.seed status (contents c.args.out.now)
    (contents c.write_read.new.out) in
    let these = c.in_ok-programs.programs in
    IfOk-weaker c.write_read.result _ (λ status. (programs : Programs) × says programs × prints programs status)
    (λ status is. (
      these,
      c.in_ok-programs.ensures.written,
      rw c.limit.ensures at is,
    ))
    c.write_read.ensures.done
