use Rattle.std.proofs.Common.{◌∙◌, ◌==◌, Some, ℕ, ap, option_map, rules, sym, tests}
use Rattle.std.proofs.lemmas.Iterator.{YieldsList-from_slice}
use Rattle.std.proofs.lemmas.Iterator.Search.{position_from_yields_List}
use Rattle.address_map.specs.Place.{line_of as line_of_word}
use Rattle.address_map.specs.declared.address.LineAddr.{LineAddr}
use Rattle.litmus_walk.specs.declared.walker.Reply.{Reply}
use Rattle.litmus_walk.proofs.walker.reply_to.Goals as goal

pub returns-in_err-thread : goal.returns-in_err-thread
returns-in_err-thread c =
    let found = position_from_yields_List (λ thread. thread.core.0 == c.args.entry.now.core.0) _ _ c.position.result
    c.position.ensures.ran (YieldsList-from_slice _ c.iter.ensures.rest) (λ x b q k. search (rules, tests)) in
    let reply : ℕ → Reply = λ number. record { thread = number; line = line_of_word c.args.entry.now.word } in
    c.from_residual.ensures ∙ sym (ap (option_map reply) (sym found ∙ c.in_err-thread.was))

pub returns : goal.returns
returns c =
    let found = position_from_yields_List (λ thread. thread.core.0 == c.args.entry.now.core.0) _ _ c.position.result
    c.position.ensures.ran (YieldsList-from_slice _ c.iter.ensures.rest) (λ x b q k. search (rules, tests)) in
    let reply : ℕ → Reply = λ number. record { thread = number; line = line_of_word c.args.entry.now.word } in
    let own : ℕ → LineAddr → Reply = λ number line. record { thread = number; line = line } in
    ap (λ (line : LineAddr). Some (own c.in_ok-thread.thread line)) c.line-line.ensures
    ∙ sym (ap (option_map reply) (sym found ∙ c.in_ok-thread.was))
