use Rattle.std.proofs.Common.{◌≡◌, refl, ◌∙◌}
use Rattle.std.proofs.lemmas.Result.{on_ok_weaker}
use Rattle.litmus_script.proofs.PumpLemmas.{pumps_shown}
use Rattle.script_explained.proofs.PumpLemmas.{pumps_kept}
use Rattle.script_explained.specs.Step.{NextSteps}
use Rattle.script_explained.proofs.StepLemmas.{next_shown, said}
use Rattle.script_explained.proofs.stepper.Stepper.pump.Goals as goal

pub returns-clause-pumped : goal.returns-clause-pumped
returns-clause-pumped g c =
    let writes_next = g.S.StepWriter.writes_next in
    let config = c.args.self.now.machine.config in
    let writer = c.args.self.now.writer in
    let kept = pumps_kept (λ p. (p.machine.config ≡ config) × (p.writer ≡ writer)) _
    (λ old new slice answer before after same made. (made.0 ∙ same.0, made.1 ∙ same.1)) _ _ _ _ _ _ _ (refl, refl) c.in_ok-pumped.ensures.pumped in
    on_ok_weaker c.write.result
    (λ written. (
      kept.1,
      record {
        pumped = _;
        middle = _;
        pumps = pumps_shown (λ p. p.machine.slices.items)
            (λ p. (p.machine.config ≡ config) × (p.writer ≡ writer)) _ (NextSteps (writes_next writer) config)
            (λ old new slice answer before after same made. (
              (made.0 ∙ same.0, made.1 ∙ same.1),
              next_shown writes_next _ _ _ _ _ _ _ _ _ _ same.0 same.1 made.2,
            ))
            _ _ _ _ _ _ _ (refl, refl) c.in_ok-pumped.ensures.pumped;
        said = said g.S.StepWriter.writes _ _ _ _ _ _ _ _ _ kept.0 kept.1 written;
      },
    ))
    c.write.ensures.written
