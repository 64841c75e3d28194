use Rattle.std.proofs.Common.{inl, map, rules}
use Rattle.std.proofs.lemmas.Result.{err_from_is_err_and, IfErr-weaker, IfOk-weaker}
use Rattle.litmus_test.specs.Line.{BeginsAsSetting}
use Rattle.litmus_test.specs.Text.{said_nothing}
use Rattle.litmus_test.proofs.ReadingLemmas.{IsNoMemoryOr-weaker, at_fault_behind, at_first_fault, at_no_line}
use Rattle.litmus_test.proofs.ReadingLemmas.{nothing_behind, reading_all, reading_none, say_behind, says_nothing}
use Rattle.litmus_test.proofs.ReadingLemmas.{unchecked_all, unchecked_first}
use Rattle.litmus_test.proofs.FaultLemmas.{config_among, left_among, next_among, settings_refused}
use Rattle.litmus_test.proofs.reader.read_statements.Goals as goal

pub loop-statement-init : goal.loop-statement-init
loop-statement-init c =
    rw c.new-preamble.ensures (reading_none c.args.version said_nothing c.args.statements)

pub returns-in_err-test-clause-refused : goal.returns-in_err-test-clause-refused
returns-in_err-test-clause-refused c =
    let p = err_from_is_err_and c.from_residual.result c.from_residual.ensures.1 in
    let begins : ¬ BeginsAsSetting (map (λ w. w.now) c.in-Some.statement.words.items) = search rules in
    rw (p.1, p.2)
    (IsNoMemoryOr-weaker _ _ _
    (λ unchecked. says_nothing c.args.version _ _ _ _ _ (rw c.in-Some.ensures.steps at c.loop-statement.invariant)
    (unchecked_first c.loop-statement.preamble c.args.version _ begins unchecked))
    c.in_err-test.ensures.refused)

pub returns-then-not-begins_as_setting-clause-says : goal.returns-then-not-begins_as_setting-clause-says
returns-then-not-begins_as_setting-clause-says c =
    IfOk-weaker c.read_threads.result _ _
    (λ test only. say_behind c.args.version _ _ _ _ _ (rw c.in-Some.ensures.steps at c.loop-statement.invariant)
    (rw c.in_ok-test.ensures.said at only))
    c.read_threads.ensures.says

pub returns-then-not-begins_as_setting-clause-refused : goal.returns-then-not-begins_as_setting-clause-refused
returns-then-not-begins_as_setting-clause-refused c =
    IfErr-weaker c.read_threads.result _ _
    (λ fault. IsNoMemoryOr-weaker _ _ fault
    (λ nothing. nothing_behind c.args.version _ _ _ _ (rw c.in-Some.ensures.steps at c.loop-statement.invariant)
    (rw c.in_ok-test.ensures.said at nothing)))
    c.read_threads.ensures.refused

pub returns-in_err-read_setting-clause-refused : goal.returns-in_err-read_setting-clause-refused
returns-in_err-read_setting-clause-refused c =
    let p = err_from_is_err_and c.from_residual-in_err-read_setting.result
    c.from_residual-in_err-read_setting.ensures.1 in
    rw (p.1, p.2)
    (IsNoMemoryOr-weaker _ _ _
    (says_nothing c.args.version _ _ _ _ _ (rw c.in-Some.ensures.steps at c.loop-statement.invariant))
    (c.in_err-read_setting.ensures.refused c.args.version))

pub returns-clause-says : goal.returns-clause-says
returns-clause-says c =
    IfOk-weaker c.test-2.result _ _
    (λ test said. rw said
    (reading_all c.args.version _ _ _ (rw c.in_default.ensures.steps.0 at c.loop-statement.invariant)))
    c.test-2.ensures.said

pub returns-clause-refused : goal.returns-clause-refused
returns-clause-refused c =
    IfErr-weaker c.test-2.result _ _
    (λ fault. IsNoMemoryOr-weaker _ _ fault
    (unchecked_all c.loop-statement.preamble c.args.version _ _
    (rw c.in_default.ensures.steps.0 at c.loop-statement.invariant)))
    c.test-2.ensures.refused

pub returns-in_err-test-clause-line : goal.returns-in_err-test-clause-line
returns-in_err-test-clause-line c =
    let p = err_from_is_err_and c.from_residual.result c.from_residual.ensures.1 in
    rw (p.1, p.2) (at_no_line _ _ c.in_err-test.ensures.line)

pub returns-then-not-begins_as_setting-clause-line : goal.returns-then-not-begins_as_setting-clause-line
returns-then-not-begins_as_setting-clause-line c =
    IfErr-weaker c.read_threads.result _ _
    (λ fault at. at_fault_behind c.args.version _ _ _ _ fault
    (rw c.in-Some.ensures.steps at c.loop-statement.invariant) (rw c.in_ok-test.ensures.said at at))
    c.read_threads.ensures.line

pub returns-in_err-read_setting-clause-line : goal.returns-in_err-read_setting-clause-line
returns-in_err-read_setting-clause-line c =
    let p = err_from_is_err_and c.from_residual-in_err-read_setting.result
    c.from_residual-in_err-read_setting.ensures.1 in
    rw (p.1, p.2)
    (at_first_fault c.args.version _ _ _ _ _ _ _ (rw c.in-Some.ensures.steps at c.loop-statement.invariant)
    (c.in_err-read_setting.ensures.refused c.args.version) c.in_err-read_setting.ensures.line)

pub returns-clause-line : goal.returns-clause-line
returns-clause-line c =
    IfErr-weaker c.test-2.result _ _ (λ fault. at_no_line _ fault) c.test-2.ensures.line

pub returns-in_err-test-clause-fault : goal.returns-in_err-test-clause-fault
returns-in_err-test-clause-fault c =
    let p = err_from_is_err_and c.from_residual.result c.from_residual.ensures.1 in
    let begins : ¬ BeginsAsSetting (map (λ w. w.now) c.in-Some.statement.words.items) = search rules in
    rw (p.1, p.2)
    (config_among c.args.version _ _ _ _ _ (rw c.in-Some.ensures.steps at c.loop-statement.invariant) begins
    (settings_refused c.loop-statement.preamble _ c.in_err-test.ensures.fault))

pub returns-then-not-begins_as_setting-clause-fault : goal.returns-then-not-begins_as_setting-clause-fault
returns-then-not-begins_as_setting-clause-fault c =
    IfErr-weaker c.read_threads.result _ _
    (λ fault wrong. left_among c.args.version _ _ _ _ fault
    (rw c.in-Some.ensures.steps at c.loop-statement.invariant) (rw c.in_ok-test.ensures.said at wrong))
    c.read_threads.ensures.fault

pub returns-in_err-read_setting-clause-fault : goal.returns-in_err-read_setting-clause-fault
returns-in_err-read_setting-clause-fault c =
    let p = err_from_is_err_and c.from_residual-in_err-read_setting.result
    c.from_residual-in_err-read_setting.ensures.1 in
    let begins : BeginsAsSetting (map (λ w. w.now) c.in-Some.statement.words.items) = search rules in
    rw (p.1, p.2)
    (next_among c.args.version _ _ _ _ _ _ _ (rw c.in-Some.ensures.steps at c.loop-statement.invariant) (inl begins)
    (c.in_err-read_setting.ensures.fault c.args.version))

pub returns-clause-fault : goal.returns-clause-fault
returns-clause-fault c =
    IfErr-weaker c.test-2.result _ _
    (λ fault wrong. config_among c.args.version _ _ _ _ fault
    (rw c.in_default.ensures.steps.0 at c.loop-statement.invariant) tt
    (settings_refused c.loop-statement.preamble fault wrong))
    c.test-2.ensures.fault
