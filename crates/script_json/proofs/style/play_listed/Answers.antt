use Rattle.std.proofs.Common.{◌≡◌, [], Some, ap, subst, ◌∙◌}
use Rattle.std.proofs.lemmas.Result.{IfErr-weaker, on_ok_weaker}
use Rattle.litmus_script.proofs.PlayLemmas.{all_shown, up_to_shown}
use Rattle.script_explained.proofs.StepLemmas.{played_from, stopped_from}
use Rattle.script_explained.specs.Step.{PlaysSteps}
use Rattle.script_json.specs.Values.{Listed, Values, ValuesNext}
use Rattle.script_json.proofs.style.play_listed.Goals as goal

pub returns-clause-played : goal.returns-clause-played
returns-clause-played g c =
    let config = c.args.machine.config in
    let new = c.new-player.ensures.machine in
    let of_config = ap (λ machine. machine.config) new in
    on_ok_weaker c.play.result
    (λ played. (
      _,
      played_from _ _ _ _ _ _ _ _ _ of_config (ap (λ machine. machine.slices.items) new)
          (all_shown (λ b. b.player.machine.slices.items) (λ b. b.player.machine.config ≡ config) _
          (Listed config)
          (λ old new line command before after same made. (
            made.2.0 ∙ same,
            (
              made.0,
              made.1,
              subst (λ k. PlaysSteps Values ValuesNext k old.player.machine.slices.items line command (Some []) (Some made.0)
                  new.player.machine.slices.items) same made.2.2,
              made.3,
            ),
          ))
          _ _ _ _ _ _ of_config played),
    ))
    c.play.ensures.played

pub returns-clause-fault : goal.returns-clause-fault
returns-clause-fault g c =
    let config = c.args.machine.config in
    let new = c.new-player.ensures.machine in
    let of_config = ap (λ machine. machine.config) new in
    IfErr-weaker c.play.result _ _
    (λ fault played. stopped_from _ _ _ _ _ _ _ _ _ of_config (ap (λ machine. machine.slices.items) new)
    (up_to_shown (λ b. b.player.machine.slices.items) (λ b. b.player.machine.config ≡ config) _
    (Listed config)
    (λ old new line command before after same made. (
      made.2.0 ∙ same,
      (
        made.0,
        made.1,
        subst (λ k. PlaysSteps Values ValuesNext k old.player.machine.slices.items line command (Some []) (Some made.0)
            new.player.machine.slices.items) same made.2.2,
        made.3,
      ),
    ))
    _ _ _ _ _ _ of_config played))
    c.play.ensures.fault
