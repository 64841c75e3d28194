use Rattle.std.proofs.Common.{append-nil, refl, arith}
use Rattle.std.proofs.lemmas.List.{map-append}
use Rattle.std.proofs.lemmas.Bool.Decides.{nat_tests}
use Rattle.litmus_text.proofs.BlankLemmas.{no_part, one_part}
use Rattle.litmus_text.proofs.row.push_part.Goals as goal

pub returns-then-is_empty-clause-items : goal.returns-then-is_empty-clause-items
returns-then-is_empty-clause-items c = rw (no_part c.args.part.now (grind (arith, nat_tests)), append-nil) refl

pub returns-clause-items : goal.returns-clause-items
returns-clause-items c =
    rw (one_part c.args.part.now (grind (arith, nat_tests)), c.push.ensures.items) (map-append (λ w. w.now) _ _)
