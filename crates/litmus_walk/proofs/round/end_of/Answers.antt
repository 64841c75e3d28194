use Rattle.std.proofs.Common.{◌≡◌, ◌∙◌, ap, arith, length, sym, true, vec_len}
use Rattle.std.proofs.lemmas.Bool.{eqb-false, eqb-true}
use Rattle.std.proofs.lemmas.List.{nil_from_length}
use Rattle.litmus_walk.proofs.round.end_of.Goals as goal

pub returns-then-is_over : goal.returns-then-is_over
returns-then-is_over c = c.is_over.ensures.0 c.if-is_over.true

pub returns-then-is_empty : goal.returns-then-is_empty
returns-then-is_empty c =
    let moves = c.list_moves.new.moves in
    let count : vec_len moves ≡ 0 = eqb-true _ _ (sym c.is_empty.ensures ∙ c.if-is_empty.true) in
    let none : length moves.items ≡ 0 = omega (arith, count, moves.ok.0) in (
      λ over. let is : c.is_over.result ≡ true = c.is_over.ensures.1 over in cc,
      rw c.in_ok-list_moves.ensures at (nil_from_length moves.items none),
    )

pub returns : goal.returns
returns c =
    let moves = c.list_moves.new.moves in (
      λ over. let is : c.is_over.result ≡ true = c.is_over.ensures.1 over in cc,
      λ none.
          let count : length moves.items ≡ 0 = ap length (c.in_ok-list_moves.ensures ∙ none) in
          let zero : vec_len moves ≡ 0 = omega (arith, count, moves.ok.0) in
          eqb-false _ _ (sym c.is_empty.ensures ∙ c.if-is_empty.false) zero,
    )
