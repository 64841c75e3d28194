use Rattle.std.proofs.Common.{inl, ◌∙◌, sym, map, ap}
use Rattle.std.proofs.lemmas.Result.{IfOk-weaker, err_from_is_err_and}
use Rattle.std.proofs.lemmas.List.{length-map}
use Rattle.script_test.proofs.RunLemmas.{prints_test}
use Rattle.script_test.proofs.run.run_test.Goals as goal

pub returns-in_err-texts-clause-fault : goal.returns-in_err-texts-clause-fault
returns-in_err-texts-clause-fault g c =
    let p = err_from_is_err_and c.from_residual-in_err-texts.result c.from_residual-in_err-texts.ensures.1 in
    let script = c.in_ok-script.ensures in
    let fault = rw (c.as_slice.ensures.value, script) at c.in_err-texts.ensures.fault in
    rw (p.1, p.2) (inl fault)

pub returns-clause-printed : goal.returns-clause-printed
returns-clause-printed g c =
    let script = c.in_ok-script.ensures in
    let numbers = c.in_ok-numbers.ensures in
    let answers = c.in_ok-answers.ensures in
    let wants = c.in_ok-wants.ensures in
    let all = c.in_ok-texts.ensures.answers in
    let numbered = rw (c.as_slice-3.ensures.value, c.as_slice-4.ensures.value) at answers in
    IfOk-weaker c.print_judgement.result _ _
    (λ status printed. prints_test c.args.input.now _ _ _ _ _ _ (c.as_slice.ensures.value ∙ script)
    (c.as_slice-2.ensures.value ∙ script)
    all numbers (ap (λ s. map (λ a. (a.line, a.text.now)) s) c.as_slice-6.ensures.value ∙ numbered)
    (ap (λ s. map (λ w. (w.line, w.text.now)) s) c.as_slice-5.ensures.value ∙ wants)
    c.args.first _ _ _ status _
    (c.len.ensures ∙ sym (length-map _ _ ∙ c.as_slice-5.ensures.len)) c.in_ok-differences.ensures
    (rw c.as_slice-7.ensures.value at printed))
    c.print_judgement.ensures.printed
