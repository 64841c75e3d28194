-- Runs of the small machine: one continues where another ended.
use Rattle.std.proofs.Common.{ℕ, List, [], ◌∷◌, ◌++◌, length, inl, inr, sym, ap, ◌∙◌, subst, ⊎_elim}
use Rattle.slice_core_theory.specs.SmallMachine.{Can, IsSame, SmallMachine, Run, Step, accept, after, entry_for, hand}
use Rattle.slice_core_theory.specs.SmallMachine.{perform}
use Rattle.slice_core_theory.specs.Shows.{Leads, small_machine_of}
use Rattle.slice_core_spec.specs.View.{View}
use Rattle.slice_log.specs.Log.{initially}
use Rattle.slice_log.specs.declared.entry.Entry.{Entry}

same-then : (m n o : SmallMachine) → IsSame m n → IsSame n o → IsSame m o
same-then m n o first second = record {
  log = first.log ∙ second.log;
  waiting = λ r. (
    λ waits. (second.waiting r).0 ((first.waiting r).0 waits),
    λ waits. (first.waiting r).1 ((second.waiting r).1 waits),
  );
  replies = λ number. (
    λ named. (second.replies number).0 ((first.replies number).0 named),
    λ named. (first.replies number).1 ((second.replies number).1 named),
  );
}

module _ (initial : ℕ → ℕ) (m n : SmallMachine) (same : IsSame m n) where
  -- Machines that are the same can make the same steps.
  can-same : (step : Step) → Can n step → Can m step
  can-same (accept r) can = (
    can.0 ∙ ap (λ (l : List Entry). length l) (sym same.log),
    λ other waits core. can.1 other ((same.waiting other).0 waits) core,
  )
  can-same (perform r) can = (
    (same.waiting r).1 can.0,
    λ other waits core line. can.1 other ((same.waiting other).0 waits) core line,
  )
  can-same (hand number) can = (same.replies number).1 can

  -- And they are the same then.
  after-same : (step : Step) → IsSame (after initial m step) (after initial n step)
  after-same (accept r) = record {
    log = same.log;
    waiting = λ other. (
      λ waits. ⊎_elim (λ before. inl ((same.waiting other).0 before)) (λ is. inr is) waits,
      λ waits. ⊎_elim (λ before. inl ((same.waiting other).1 before)) (λ is. inr is) waits,
    );
    replies = same.replies;
  }
  after-same (perform r) = record {
    log = ap (λ l. l ++ entry_for initial l r ∷ []) same.log;
    waiting = λ other. (
      λ waits. ((same.waiting other).0 waits.0, waits.1),
      λ waits. ((same.waiting other).1 waits.0, waits.1),
    );
    replies = λ number. (
      λ named.
          ⊎_elim (λ before. inl ((same.replies number).0 before))
          (λ is. inr (is ∙ ap (λ (l : List Entry). length l) same.log)) named,
      λ named.
          ⊎_elim (λ before. inl ((same.replies number).1 before))
          (λ is. inr (is ∙ ap (λ (l : List Entry). length l) (sym same.log))) named,
    );
  }
  after-same (hand given) = record {
    log = same.log;
    waiting = same.waiting;
    replies = λ number. (
      λ named. ((same.replies number).0 named.0, named.1),
      λ named. ((same.replies number).1 named.0, named.1),
    );
  }

-- So one makes the run that the other makes.
run-same : (initial : ℕ → ℕ) (steps : List Step) (m n now : SmallMachine) → IsSame m n → Run initial steps n now
    → Run initial steps m now
run-same initial [] m n now same run = same-then m n now same run
run-same initial (step ∷ steps) m n now same run = (
  can-same initial m n same step run.0,
  run-same initial steps (after initial m step) (after initial n step) now (after-same initial m n same step) run.1,
)

run-on : (initial : ℕ → ℕ) (first second : List Step) (m n now : SmallMachine) → Run initial first m n
    → Run initial second n now → Run initial (first ++ second) m now
run-on initial [] second m n now one other = run-same initial second m n now one other
run-on initial (step ∷ first) second m n now one other =
    (one.0, run-on initial first second (after initial m step) n now one.1 other)

-- A run continues where another ended.
pub leads-on : (u v w : View) (first second : List Step) → Leads first u v → Leads second v w
    → Leads (first ++ second) u w
leads-on u v w first second one other = record {
  init = other.init ∙ one.init;
  run =
      run-on (initially u.init) first second (small_machine_of u) (small_machine_of v) (small_machine_of w) one.run
      (subst (λ init. Run (initially init) second (small_machine_of v) (small_machine_of w)) one.init other.run);
}
