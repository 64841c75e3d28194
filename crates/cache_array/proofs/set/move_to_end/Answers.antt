use Rattle.std.proofs.Common.{arith, length, ◌-◌, ◌∙◌}
use Rattle.std.proofs.lemmas.Slice.{put_mid-rotated}
use Rattle.cache_array.proofs.Places.{last_stays, swapped_last}
use Rattle.cache_array.proofs.set.move_to_end.Goals as goal

pub returns-then-behind-eq0 : goal.returns-then-behind-eq0
returns-then-behind-eq0 g c = λ d. last_stays c.args.slots.now c.args.way d (omega arith)

pub returns-then-behind-eq1 : goal.returns-then-behind-eq1
returns-then-behind-eq1 g c =
    λ d. c.swap.ensures.after ∙ swapped_last c.args.slots.now c.args.way d (omega arith)

pub returns-else-behind-eq1 : goal.returns-else-behind-eq1
returns-else-behind-eq1 g c =
    λ d.
    let slots = c.args.slots.now in
    put_mid-rotated c.args.way (length slots - c.args.way) slots c.turn.new.slots d (omega arith)
    (omega arith) c.turn.ensures
