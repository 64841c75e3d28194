use Rattle.std.proofs.Common.{arith, inl, inr}
use Rattle.litmus_rounds.proofs.RoundLemmas.{no_rounds, rounds_push}
use Rattle.litmus_rounds.proofs.stretch.walk_rounds.Goals as goal

pub loop-round-init : goal.loop-round-init
loop-round-init c = no_rounds _ _ _ _ _ c.requires.none

pub add_outcome-requires-clause-fits : goal.add_outcome-requires-clause-fits
add_outcome-requires-clause-fits c =
    omega (arith, c.loop-round.invariant.counted, c.loop-round.invariant.table_of.count)

pub add_outcome-requires-clause-config : goal.add_outcome-requires-clause-config
add_outcome-requires-clause-config c = c.in_ok-walked.ensures.walk.shape

pub loop-round-preserved : goal.loop-round-preserved
loop-round-preserved c =
    let walked = c.in_ok-walked in
    let added = c.in_ok-added.ensures.added c.if-not-added.false in
    let over = c.in-Over.is in
    rounds_push _ _ _ _ _ _ _ added.0 c.loop-round.invariant (record {
      walk = walked.walked.recorded;
      walked = walked.ensures.walk;
      drawn = rw (c.requires.lines, over) at walked.ensures.drawn;
      done = walked.ensures.done over;
      quiet = walked.ensures.over over;
      outcome = added.1;
    }) added.2

pub returns-in-Stuck : goal.returns-in-Stuck
returns-in-Stuck c =
    let walked = c.in_ok-walked in (
      c.loop-round-test.true,
      c.loop-round.invariant,
      record {
        walk = walked.walked.recorded;
        walked = walked.ensures.walk;
        end = walked.walked.end;
        drawn = rw (c.requires.lines) at walked.ensures.drawn;
        stuck = inl c.in-Stuck.is;
      },
    )

pub returns-in-GaveUp : goal.returns-in-GaveUp
returns-in-GaveUp c =
    let walked = c.in_ok-walked in (
      c.loop-round-test.true,
      c.loop-round.invariant,
      record {
        walk = walked.walked.recorded;
        walked = walked.ensures.walk;
        drawn = rw (c.requires.lines, c.in-GaveUp.is) at walked.ensures.drawn;
      },
    )

pub returns-then-not-added : goal.returns-then-not-added
returns-then-not-added c =
    let walked = c.in_ok-walked in (
      c.loop-round-test.true,
      rw (c.in_ok-added.ensures.kept c.if-not-added.true) c.loop-round.invariant,
      record {
        walk = walked.walked.recorded;
        walked = walked.ensures.walk;
        end = walked.walked.end;
        drawn = rw (c.requires.lines) at walked.ensures.drawn;
        stuck = inr (c.in-Over.is, c.in_ok-added.ensures.none c.if-not-added.true);
      },
    )
