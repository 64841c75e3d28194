use Rattle.std.proofs.Common.{rules}
use Rattle.std.specs.Prelude.{nat_lt}
use Rattle.std.proofs.lemmas.List.Sorted.{answers_always}
use Rattle.address_map.proofs.Ascending.{test-from_is_sorted}
use Rattle.address_map.proofs.words.CounterWords.is_ascending.Goals as goal

pub returns : goal.returns
returns c =
    let by_word =
    c.is_sorted_by.ensures.cases (λ first next. nat_lt first.0 next.0)
    (answers_always _ _ _ (λ f a r g called. search rules)) in
    rw (← c.as_slice.ensures) (test-from_is_sorted (λ x. x.0) c.as_slice.result.now c.is_sorted_by.result by_word)
