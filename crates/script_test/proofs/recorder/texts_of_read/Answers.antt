use Rattle.std.proofs.Common.{◌≡◌, [], Some, refl, ap, subst, ◌∙◌, inl, inr, map}
use Rattle.std.proofs.lemmas.Result.{err_from_is_err_and}
use Rattle.litmus_script.specs.Prints.{IsPrinted}
use Rattle.litmus_script.proofs.PlayLemmas.{up_to_shown}
use Rattle.script_test.specs.Answers.{Answering}
use Rattle.script_test.proofs.AnswerLemmas.{all_answer, answered_on, stopped_on}
use Rattle.script_test.proofs.recorder.texts_of_read.Goals as goal

pub returns-in_err-machine-clause-fault : goal.returns-in_err-machine-clause-fault
returns-in_err-machine-clause-fault c =
    let p = err_from_is_err_and c.from_residual.result c.from_residual.ensures.1 in
    rw (p.1, p.2) (Some [], inl (c.in_err-machine.ensures.fault, refl))

pub returns-in_err-play-clause-fault : goal.returns-in_err-play-clause-fault
returns-in_err-play-clause-fault c =
    let p = err_from_is_err_and c.from_residual-in_err-play.result c.from_residual-in_err-play.ensures.1 in
    let config = c.in_ok-machine.machine.config in
    let stopped = up_to_shown (λ r. r.machine.slices.items) (λ r. r.machine.config ≡ config) _ (Answering config)
    (λ old new line command before after same made. (
      made.0 ∙ same,
      (
        made.1,
        subst (λ k. IsPrinted k command old.machine.slices.items new.machine.slices.items (Some [])
            (Some made.1)) same made.2,
      ),
    ))
    config _ _ _ _ _ refl c.in_err-play.ensures.fault in
    rw (p.1, p.2) (
      _,
      inr
          (stopped_on config c.args.script.config _ _ _ _ _ _ c.in_ok-machine.ensures.config c.new-nothing.ensures.items
          c.in_ok-machine.ensures.new stopped),
    )

pub returns-clause-answers : goal.returns-clause-answers
returns-clause-answers c =
    let config = c.in_ok-machine.machine.config in
    let all = all_answer (λ r. r.machine.slices.items) (λ r. r.machine.config) (λ r. map (λ t. t.items) r.texts.items) _
    (λ old new line command before after made. made) config _ _ _ _ _ refl c.in_ok-play.ensures.played in
    answered_on config c.args.script.config _ _ _ _ _ _ all.0 c.in_ok-machine.ensures.config
    (ap (λ ts. map (λ t. t.items) ts) c.new.ensures.items)
    c.in_ok-machine.ensures.new all.1 all.2
