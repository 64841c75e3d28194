use Rattle.std.proofs.Common.{◌≡◌, false, refl, subst, ◌∙◌}
use Rattle.std.proofs.lemmas.Result.{IfErr-weaker, on_ok_weaker}
use Rattle.litmus_script.proofs.PlayLemmas.{all_shown, up_to_shown}
use Rattle.litmus_script.specs.Prints.{IsPrinted}
use Rattle.litmus_script.specs.Script.{Echoed, Plainly}
use Rattle.litmus_script.proofs.script.play_alone.Goals as goal

pub returns-clause-played : goal.returns-clause-played
returns-clause-played g c =
    let config = c.args.machine.config in
    on_ok_weaker c.play.result
    (λ played. (
      _,
      all_shown (λ m. m.slices.items) (λ m. m.config ≡ config) _ (Echoed false Plainly config)
          (λ old new line command before after same made.
          (made.0 ∙ same, subst (λ k. IsPrinted k command old.slices.items new.slices.items before after) same made.1))
          config _ _ _ _ _ refl played,
    ))
    c.play.ensures.played

pub returns-clause-fault : goal.returns-clause-fault
returns-clause-fault g c =
    let config = c.args.machine.config in
    IfErr-weaker c.play.result _ _
    (λ fault played. up_to_shown (λ m. m.slices.items) (λ m. m.config ≡ config) _ (Echoed false Plainly config)
    (λ old new line command before after same made.
    (made.0 ∙ same, subst (λ k. IsPrinted k command old.slices.items new.slices.items before after) same made.1))
    config _ _ _ _ _ refl played)
    c.play.ensures.fault
