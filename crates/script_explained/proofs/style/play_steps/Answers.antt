use Rattle.std.proofs.Common.{◌≡◌, ap, ◌∙◌}
use Rattle.std.proofs.lemmas.Result.{IfErr-weaker, on_ok_weaker}
use Rattle.litmus_script.proofs.PlayLemmas.{all_shown, up_to_shown}
use Rattle.script_explained.specs.Step.{PlaysSteps}
use Rattle.script_explained.proofs.StepLemmas.{played_from, steps_shown, stopped_from}
use Rattle.script_explained.proofs.style.play_steps.Goals as goal

pub returns-clause-played : goal.returns-clause-played
returns-clause-played g c =
    let writes = g.S.StepWriter.writes in
    let writes_next = g.S.StepWriter.writes_next in
    let config = c.args.machine.config in
    let writer = c.args.writer in
    let new = c.new-stepper.ensures in
    let of_config = ap (λ machine. machine.config) new.machine in
    let of_slices = ap (λ machine. machine.slices.items) new.machine in
    on_ok_weaker c.play.result
    (λ played. (
      _,
      played_from _ _ _ _ _ _ _ _ _ of_config of_slices
          (all_shown (λ m. m.machine.slices.items) (λ m. (m.machine.config ≡ config) × (m.writer ≡ writer)) _
          (PlaysSteps (writes writer) (writes_next writer) config)
          (λ old new line command before after same made. (
            (made.0 ∙ same.0, made.1 ∙ same.1),
            steps_shown writes writes_next _ _ _ _ _ _ _ _ _ _ same.0 same.1 made.2,
          ))
          _ _ _ _ _ _ (of_config, new.writer) played),
    ))
    c.play.ensures.played

pub returns-clause-fault : goal.returns-clause-fault
returns-clause-fault g c =
    let writes = g.S.StepWriter.writes in
    let writes_next = g.S.StepWriter.writes_next in
    let config = c.args.machine.config in
    let writer = c.args.writer in
    let new = c.new-stepper.ensures in
    let of_config = ap (λ machine. machine.config) new.machine in
    let of_slices = ap (λ machine. machine.slices.items) new.machine in
    IfErr-weaker c.play.result _ _
    (λ fault played. stopped_from _ _ _ _ _ _ _ _ _ of_config of_slices
    (up_to_shown (λ m. m.machine.slices.items) (λ m. (m.machine.config ≡ config) × (m.writer ≡ writer)) _
    (PlaysSteps (writes writer) (writes_next writer) config)
    (λ old new line command before after same made. (
      (made.0 ∙ same.0, made.1 ∙ same.1),
      steps_shown writes writes_next _ _ _ _ _ _ _ _ _ _ same.0 same.1 made.2,
    ))
    _ _ _ _ _ _ (of_config, new.writer) played))
    c.play.ensures.fault
