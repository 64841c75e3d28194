use Rattle.std.proofs.Common.{◌≡◌, ap, subst, true, ◌∙◌}
use Rattle.litmus_script.proofs.PlayLemmas.{all_shown}
use Rattle.litmus_script.specs.Script.{Echoed}
use Rattle.script_explained.proofs.StepLemmas.{played_from}
use Rattle.script_explained.specs.Explains.{Explainingly}
use Rattle.script_prompt.proofs.session.play_on.Goals as goal

pub returns-clause-config : goal.returns-clause-config
returns-clause-config g c =
    c.in_ok-play.ensures.config ∙ ap (λ machine. machine.config) c.new-player.ensures.machine
    ∙ c.in_ok-machine.ensures.config

pub returns-clause-played : goal.returns-clause-played
returns-clause-played g c =
    let config = c.args.config in
    let machine = c.in_ok-machine.machine in
    let new = c.new-player.ensures.machine in
    let is = ap (λ machine. machine.config) new ∙ c.in_ok-machine.ensures.config in
    record {
      start = machine.slices.items;
      fresh = c.in_ok-machine.ensures.new;
      played = played_from _ _ _ _ _ _ _ _ _ is (ap (λ machine. machine.slices.items) new)
          (all_shown (λ m. m.player.machine.slices.items) (λ m. m.player.machine.config ≡ config) _
          (Echoed true Explainingly config)
          (λ old new line command before after same made. (
            made.2.0 ∙ same,
            (
              made.0,
              made.1,
              subst (λ k. Explainingly k old.player.machine.slices.items line command made.0 after
                  new.player.machine.slices.items) same made.2.2,
            ),
          ))
          _ _ _ _ _ _ is c.in_ok-play.ensures.played);
    }
