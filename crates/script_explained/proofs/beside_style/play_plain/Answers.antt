use Rattle.std.proofs.Common.{◌≡◌, [], Some, refl, subst, ◌∙◌}
use Rattle.std.proofs.lemmas.Result.{IfErr-weaker, on_ok_weaker}
use Rattle.litmus_script.proofs.PlayLemmas.{all_shown, up_to_shown}
use Rattle.litmus_script.specs.Prints.{IsPrinted}
use Rattle.litmus_script.specs.Script.{Plainly}
use Rattle.script_explained.specs.Beside.{IsBeside}
use Rattle.script_explained.proofs.beside_style.play_plain.Goals as goal

pub returns-clause-played : goal.returns-clause-played
returns-clause-played g c =
    let config = c.args.machine.config in
    on_ok_weaker c.play.result
    (λ played. (
      _,
      all_shown (λ b. b.player.slices.items) (λ b. b.player.config ≡ config) _ (IsBeside Plainly config)
          (λ old new line command before after same made. (
            made.1.0 ∙ same,
            (
              made.0,
              subst (λ k. IsPrinted k command old.player.slices.items new.player.slices.items
                  (Some []) (Some made.0)) same made.1.1,
              made.2,
            ),
          ))
          config _ _ _ _ _ refl played,
    ))
    c.play.ensures.played

pub returns-clause-fault : goal.returns-clause-fault
returns-clause-fault g c =
    let config = c.args.machine.config in
    IfErr-weaker c.play.result _ _
    (λ fault played. up_to_shown (λ b. b.player.slices.items) (λ b. b.player.config ≡ config) _
    (IsBeside Plainly config)
    (λ old new line command before after same made. (
      made.1.0 ∙ same,
      (
        made.0,
        subst (λ k. IsPrinted k command old.player.slices.items new.player.slices.items (Some [])
            (Some made.0)) same made.1.1,
        made.2,
      ),
    ))
    config _ _ _ _ _ refl played)
    c.play.ensures.fault
