-- How a run of a litmus test ends, round by round.
use Rattle.std.proofs.Common.{◌≡◌, ℕ, ◌+◌, ◌∙◌, List, [], ◌∷◌, ◌++◌, Result, Ok, Err, ap, inl, inr, length-append}
use Rattle.std.proofs.Common.{subst}
use Rattle.std.specs.Prelude.{IfOk, IfSome, MatchOption, None, OnOk, Option, Some}
use Rattle.std.specs.Fmt.{WritesInCalls}
use Rattle.std.proofs.lemmas.List.Elements.{All-push}
use Rattle.address_map.specs.declared.config.Config.{Config}
use Rattle.drain.specs.declared.report.CounterValue.{CounterValue}
use Rattle.litmus_test.specs.Table.{IsTableOf, TableView}
use Rattle.litmus_test.specs.declared.outcomes.named_request.NamedRequest.{NamedRequest}
use Rattle.litmus_test.specs.declared.test.LitmusTest.{LitmusTest}
use Rattle.litmus_test.specs.declared.test.Thread.{Thread}
use Rattle.litmus_text.specs.declared.fault.TextFault.{TextFault}
use Rattle.litmus_threads.specs.Found.{IsOutcomeIn}
use Rattle.litmus_threads.specs.Round.{IsFoundOn, IsOutcomeOf, IsRoundOf, IsRunOf, IsTableFor, named_requests_of}
use Rattle.litmus_threads.specs.Run.{HasStatus, IsEndOf, IsTold}
use Rattle.litmus_threads.specs.declared.rounds.Run.{Run}
use Rattle.litmus_threads.specs.declared.rounds.Run.TheVariants as runs
use Rattle.litmus_test.specs.Form.{text_of_outcomes, text_of_stuck}
use Rattle.litmus_test.specs.declared.outcomes.form.OutcomeForm.{OutcomeForm}
use Rattle.receipt_ledger.specs.declared.receipt.Receipt.{Receipt}

-- One more round had an outcome of the test, and was counted.
pub table-more : (test : LitmusTest) (round : ℕ) (old new : TableView) (values shown : List ℕ)
    (named_requests : List (Option NamedRequest)) → shown ≡ values → named_requests ≡ named_requests_of test →
    IsTableFor test round old
    → IsFoundOn test.config test.threads.items named_requests values
    → ((rounds : List (List ℕ)) → IsTableOf rounds old → IsTableOf (rounds ++ shown ∷ []) new)
    → IsTableFor test (round + 1) new
table-more test round old new values shown named_requests same named so_far found counted =
    let own : IsOutcomeOf test values =
    subst (λ (ss : List (Option NamedRequest)). IsFoundOn test.config test.threads.items ss values) named found in
    record {
      outcomes = so_far.outcomes ++ values ∷ [];
      table_is =
          subst (λ (vs : List ℕ). IsTableOf (so_far.outcomes ++ vs ∷ []) new) same
          (counted so_far.outcomes so_far.table_is);
      each_round = length-append so_far.outcomes (values ∷ []) ∙ ap (λ (n : ℕ). n + 1) so_far.each_round;
      each = All-push (IsOutcomeOf test) so_far.outcomes values so_far.each own;
    }

-- What was reported in calls of a writer is reported in their combined result, if they also show that they left it so.
pub told-in-calls : {S X N : Type 0} (gives : S → List ℕ → S → Type 0) (old new : S) (test : LitmusTest) (form : OutcomeForm)
    (run : Run) (written : X → List ℕ → Type 0) (left exit : X) → IsTold test form (λ text. WritesInCalls gives old text new) run
    → ((text : List ℕ) → WritesInCalls gives old text new → N × written left text) → (N → left ≡ exit)
    → IsTold test form (written exit) run
told-in-calls {S} {X} {N} gives old new test form (runs.Whole table) written left exit told on same =
    λ outcomes table_is.
    let text : List ℕ = text_of_outcomes form test None table.rows outcomes in
    let wrote : N × written left text = on text (told outcomes table_is) in
    subst (λ (x : X). written x text) (same wrote.0) wrote.1
told-in-calls {S} {X} {N} gives old new test form (runs.Stuck round) written left exit told on same =
    let text : List ℕ = text_of_stuck form round in
    let wrote : N × written left text = on text told in
    subst (λ (x : X). written x text) (same wrote.0) wrote.1

-- A run that was reported has ended in one of the two ways.
pub ended : (test : LitmusTest) (form : OutcomeForm) (run : Run) (written : List ℕ → Type 0) (told : Result ℕ TextFault) → IsRunOf test run
    → OnOk told (IsTold test form written run) → IfOk told (HasStatus test run) → IfOk told (IsEndOf test form written)
ended test form (runs.Whole table) written (Ok status) of_test told has =
    inl (record {
      outcomes = of_test.outcomes;
      rows = table.rows;
      rows_are = of_test.table_is.rows;
      each_round = of_test.each_round;
      each = of_test.each;
      text = told of_test.outcomes of_test.table_is;
      status_is = has of_test.outcomes of_test.table_is;
    })
ended test form (runs.Stuck round) written (Ok status) of_test told has =
    inr (record { round = round; is_one = of_test; text = told; status_is = has })
ended test form run written (Err fault) of_test told has = tt

-- A round that was audited has the outcome that is found in its receipts and counters.
pub found-in : (c : Config) (threads : List Thread) (named_requests : List (Option NamedRequest))
    (receipts : List Receipt) (counters : List CounterValue) (values : List ℕ)
    → IsRoundOf c threads receipts counters → IsOutcomeIn receipts counters named_requests values
    → IsFoundOn c threads named_requests values
found-in c threads named_requests receipts counters values of_round found = record {
  cores = of_round.cores;
  receipts = receipts;
  counters = counters;
  made = of_round.made;
  audited = of_round.audited;
  found = found;
}

-- .. if there is one.
pub found-at : {V : Type 0} (lacks : Type 0) (items : V → List ℕ) (c : Config) (threads : List Thread)
    (named_requests : List (Option NamedRequest)) (receipts : List Receipt) (counters : List CounterValue)
    (found : Option V) → IsRoundOf c threads receipts counters
    → MatchOption found lacks (λ v. IsOutcomeIn receipts counters named_requests (items v))
    → IfSome found (λ v. IsFoundOn c threads named_requests (items v))
found-at lacks items c threads named_requests receipts counters None of_round found = tt
found-at lacks items c threads named_requests receipts counters (Some v) of_round found =
    found-in c threads named_requests receipts counters (items v) of_round found
