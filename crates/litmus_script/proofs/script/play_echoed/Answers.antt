use Rattle.std.proofs.Common.{◌≡◌, refl, subst, true, ◌∙◌}
use Rattle.std.proofs.lemmas.Result.{IfErr-weaker, on_ok_weaker}
use Rattle.litmus_script.proofs.PlayLemmas.{all_shown, up_to_shown}
use Rattle.litmus_script.specs.Prints.{IsPrinted}
use Rattle.litmus_script.specs.Script.{Echoed, Plainly}
use Rattle.litmus_script.proofs.script.play_echoed.Goals as goal

pub returns-clause-played : goal.returns-clause-played
returns-clause-played g c =
    let config = c.args.machine.config in
    on_ok_weaker c.play.result
    (λ played. (
      _,
      all_shown (λ m. m.player.slices.items) (λ m. m.player.config ≡ config) _ (Echoed true Plainly config)
          (λ old new line command before after same made. (
            made.2.0 ∙ same,
            (
              made.0,
              made.1,
              subst (λ k. IsPrinted k command old.player.slices.items
                  new.player.slices.items made.0 after) same made.2.1,
            ),
          ))
          config _ _ _ _ _ refl played,
    ))
    c.play.ensures.played

pub returns-clause-fault : goal.returns-clause-fault
returns-clause-fault g c =
    let config = c.args.machine.config in
    IfErr-weaker c.play.result _ _
    (λ fault played. up_to_shown (λ m. m.player.slices.items) (λ m. m.player.config ≡ config) _
    (Echoed true Plainly config)
    (λ old new line command before after same made. (
      made.2.0 ∙ same,
      (
        made.0,
        made.1,
        subst (λ k. IsPrinted k command old.player.slices.items new.player.slices.items
            made.0 after) same made.2.1,
      ),
    ))
    config _ _ _ _ _ refl played)
    c.play.ensures.fault
