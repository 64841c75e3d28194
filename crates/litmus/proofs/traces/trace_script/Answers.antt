use Rattle.std.proofs.Common.{◌≡◌, ◌∙◌, inr, refl, subst}
use Rattle.std.proofs.lemmas.Result.{on_ok_weaker}
use Rattle.litmus_script.proofs.PlayLemmas.{all_shown, up_to_shown}
use Rattle.litmus_script.specs.Prints.{IsPrinted}
use Rattle.litmus_script.specs.Script.{Plainly}
use Rattle.litmus.proofs.Played.{played-on, stopped-on}
use Rattle.litmus.proofs.traces.trace_script.Goals as goal

pub returns-in-Ok-clause-traced : goal.returns-in-Ok-clause-traced
returns-in-Ok-clause-traced g c =
    let built = c.in_ok-machine.machine in
    let same = c.in_ok-machine.ensures.config in
    let shown =
    all_shown (λ m. m.slices.items) (λ m. m.config ≡ built.config) _ (Plainly built.config)
    (λ old new line command before after is made.
    (made.0 ∙ is, subst (λ k. IsPrinted k command old.slices.items new.slices.items before after) is made.1))
    built.config _ _ _ _ _ refl c.in-Ok.ensures.played in
    on_ok_weaker c.write_logs.result
    (λ wrote. record {
      start = built.slices.items;
      fresh = c.in_ok-machine.ensures.new;
      end = c.play.new.player.slices.items;
      answers = _;
      played = played-on _ _ _ _ _ _ _ same c.new-answers.ensures.items shown;
      written = rw (c.in-Ok.ensures.config ∙ same) at wrote;
    })
    c.write_logs.ensures.written

pub returns : goal.returns
returns g c =
    let built = c.in_ok-machine.machine in
    let same = c.in_ok-machine.ensures.config in
    let shown =
    up_to_shown (λ m. m.slices.items) (λ m. m.config ≡ built.config) _ (Plainly built.config)
    (λ old new line command before after is made.
    (made.0 ∙ is, subst (λ k. IsPrinted k command old.slices.items new.slices.items before after) is made.1))
    built.config _ _ _ _ _ refl c.in-Err.ensures.fault in
    record {
      traced = tt;
      fault = inr (
        _,
        inr (record {
          start = built.slices.items;
          fresh = c.in_ok-machine.ensures.new;
          stopped = stopped-on _ _ _ _ _ _ _ same c.new-answers.ensures.items shown;
        }),
      );
    }
