use Rattle.std.proofs.Common.{◌≡◌, ◌∙◌, below_more, length, refl, slice_get, Some, subst, sym}
use Rattle.std.proofs.lemmas.Option.{slice_get_read}
use Rattle.program_text.specs.declared.programs.CoreProgram.{CoreProgram}
use Rattle.program_run.specs.Run.{HasEnded}
use Rattle.program_run.proofs.runner.have_ended.Goals as goal

pub loop-number-preserved : goal.loop-number-preserved
loop-number-preserved c =
    let programs = c.args.programs.now in
    let places = c.args.places.now in
    let read : slice_get programs c.loop-number.number ≡ Some c.index-programs-number.result =
    slice_get_read programs (length programs) c.loop-number.number c.index-programs-number.result refl
    c.loop-number-test.true
    c.index-programs-number.is in
    below_more (λ k. (program : CoreProgram) → slice_get programs k ≡ Some program
    → HasEnded program (slice_get places k))
    c.loop-number.number c.loop-number.invariant
    (λ program is.
    let same : c.index-programs-number.result ≡ program = let both = sym read ∙ is in cc in
    subst (λ p. HasEnded p (slice_get places c.loop-number.number)) same
    (c.has_ended.ensures.0 c.if-not-has_ended.false))
