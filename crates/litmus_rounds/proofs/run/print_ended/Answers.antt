use Rattle.std.proofs.Common.{inl, inr, refl, sym, ◌∙◌}
use Rattle.litmus_rounds.proofs.RoundLemmas.{told_none, told_some}
use Rattle.litmus_rounds.proofs.run.print_ended.Goals as goal

pub returns-in_ok-print_stuck-in-Stuck-clause-printed : goal.returns-in_ok-print_stuck-in-Stuck-clause-printed
returns-in_ok-print_stuck-in-Stuck-clause-printed g c = λ bound count have.
    let (below, others, stuck) = rw c.in-Stuck.is at have in
    inr (inl (record {
      round = c.in-Stuck.round;
      one_of = below;
      table = c.args.outcomes.now;
      others = others;
      stuck = stuck;
      printed = c.in_ok-print_stuck-in-Stuck.ensures.printed;
      told = refl;
    }))

pub returns-in_ok-print_gave_up-in-GaveUp-clause-printed : goal.returns-in_ok-print_gave_up-in-GaveUp-clause-printed
returns-in_ok-print_gave_up-in-GaveUp-clause-printed g c = λ bound count have.
    let (below, others, given_up) = rw c.in-GaveUp.is at have in
    inr (inr (record {
      round = c.in-GaveUp.round;
      one_of = below;
      table = c.args.outcomes.now;
      others = others;
      given_up = given_up;
      printed = c.in_ok-print_gave_up-in-GaveUp.ensures.printed;
      told = refl;
    }))

pub returns-then-forbidden-eq0-clause-printed : goal.returns-then-forbidden-eq0-clause-printed
returns-then-forbidden-eq0-clause-printed g c = λ bound count have.
    let are = rw c.in-Done.is at have in
    let counted = c.forbidden.ensures are.rounds are.table_of in
    inl (record {
      table = c.args.outcomes.now;
      rounds = are;
      printed = c.in_ok-print_outcomes-in-Done.ensures.printed are.rounds are.table_of;
      told = told_none _ (sym counted ∙ c.if-forbidden-eq0.true);
    })

pub returns-else-forbidden-eq0-clause-printed : goal.returns-else-forbidden-eq0-clause-printed
returns-else-forbidden-eq0-clause-printed g c = λ bound count have.
    let are = rw c.in-Done.is at have in
    let counted = c.forbidden.ensures are.rounds are.table_of in
    inl (record {
      table = c.args.outcomes.now;
      rounds = are;
      printed = c.in_ok-print_outcomes-in-Done.ensures.printed are.rounds are.table_of;
      told = told_some _ (λ none. c.if-forbidden-eq0.false (counted ∙ none));
    })
