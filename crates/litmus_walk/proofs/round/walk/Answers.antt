use Rattle.std.proofs.Common.{refl}
use Rattle.litmus_walk.specs.Done.{HaveDone, steps_of}
use Rattle.litmus_walk.specs.Moves.{state_of}
use Rattle.litmus_walk.proofs.DoneLemmas.{done-all, done-none, first-zeros}
use Rattle.litmus_walk.proofs.round.walk.Goals as goal

pub returns-clause-done : goal.returns-clause-done
returns-clause-done c =
    let threads = c.args.test.now.threads.items in
    let first = c.in_ok-walker.walker in
    let last = c.walk_on.new.walker in
    let begins : HaveDone threads (steps_of first.places.items) first.recorded.calls =
    rw (c.in_ok-walker.ensures.recorded, c.in_ok-recorded.ensures.none)
    (done-none threads (steps_of first.places.items) (rw c.in_ok-walker.ensures.first (first-zeros _))) in
    λ over.
    let ends = rw over at c.in_ok-end.ensures in
    done-all threads (steps_of last.places.items) last.recorded.calls (c.in_ok-walk_on.ensures.done begins) ends.0

pub returns-clause-over : goal.returns-clause-over
returns-clause-over c = λ over. let ends = rw over at c.in_ok-end.ensures in ends.1

pub returns-clause-drawn : goal.returns-clause-drawn
returns-clause-drawn c =
    let first = c.in_ok-walker.walker in
    let last = c.walk_on.new.walker in
    record {
      start = state_of first.recorded first.places.items first.replies.items;
      new = record {
        fresh = rw c.in_ok-walker.ensures.recorded (rw c.in_ok-config.ensures at c.in_ok-recorded.ensures);
        first = c.in_ok-walker.ensures.first;
        none = c.in_ok-walker.ensures.none;
      };
      last = state_of last.recorded last.places.items last.replies.items;
      draws = c.in_ok-walk_on.ensures.draws;
      is = refl;
      ends = c.in_ok-end.ensures;
    }
