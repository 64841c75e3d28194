use Rattle.std.proofs.Common.{◌∙◌, ◌+◌, ◌-◌, arith, drop, length, length-drop, not, rules, sym, tests}
use Rattle.std.proofs.lemmas.Iterator.{YieldsList-from_slice}
use Rattle.std.proofs.lemmas.Iterator.Search.{position_from_yields_List}
use Rattle.std.proofs.lemmas.List.{take_all}
use Rattle.litmus_text.specs.Text.{is_blank}
use Rattle.litmus_text.proofs.WordLemmas.{first_letter, words_begin, words_of_blanks, words_to_blank, words_without_blank}
use Rattle.litmus_text.proofs.word.first_word.Goals as goal

pub returns-in_err-start : goal.returns-in_err-start
returns-in_err-start c =
    let found = position_from_yields_List (λ b. not (is_blank b)) _ _ c.position.result c.position.ensures.ran
    (YieldsList-from_slice _ c.iter.ensures.rest) (λ x b q k. search (rules, tests)) in
    rw c.from_residual.ensures (words_of_blanks c.args.text.now (sym found ∙ c.in_err-start.was))

pub split_at-requires : goal.split_at-requires
split_at-requires c =
    let found = position_from_yields_List (λ b. not (is_blank b)) _ _ c.position.result c.position.ensures.ran
    (YieldsList-from_slice _ c.iter.ensures.rest) (λ x b q k. search (rules, tests)) in
    omega (arith, first_letter c.args.text.now c.in_ok-start.start (sym found ∙ c.in_ok-start.was))

pub returns-in-Some : goal.returns-in-Some
returns-in-Some c =
    let found = position_from_yields_List (λ b. not (is_blank b)) _ _ c.position.result c.position.ensures.ran
    (YieldsList-from_slice _ c.iter.ensures.rest) (λ x b q k. search (rules, tests)) in
    let text = c.split_at.result.1.now in
    let begins = words_begin c.args.text.now text c.in_ok-start.start (sym found ∙ c.in_ok-start.was)
    c.split_at.ensures.back in
    let ends = position_from_yields_List is_blank _ _ c.position-2.result c.position-2.ensures.ran
    (YieldsList-from_slice _ c.iter-2.ensures.rest) (λ x b q k. search (rules, tests)) in
    let next = c.in-Some.end + 1 in
    let rest = take_all (length text - next) (drop next text) (simp length-drop (omega arith)) in
    rw rest (begins.same_words ∙ words_to_blank text c.in-Some.end begins.no_blank (sym ends ∙ c.in-Some.is))

pub returns-in-None : goal.returns-in-None
returns-in-None c =
    let found = position_from_yields_List (λ b. not (is_blank b)) _ _ c.position.result c.position.ensures.ran
    (YieldsList-from_slice _ c.iter.ensures.rest) (λ x b q k. search (rules, tests)) in
    let text = c.split_at.result.1.now in
    let begins = words_begin c.args.text.now text c.in_ok-start.start (sym found ∙ c.in_ok-start.was)
    c.split_at.ensures.back in
    let ends = position_from_yields_List is_blank _ _ c.position-2.result c.position-2.ensures.ran
    (YieldsList-from_slice _ c.iter-2.ensures.rest) (λ x b q k. search (rules, tests)) in
    begins.same_words ∙ words_without_blank text begins.some (sym ends ∙ c.in-None.is)
