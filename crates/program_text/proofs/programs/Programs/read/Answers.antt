use Rattle.std.proofs.Common.{map, rules}
use Rattle.std.specs.Str.Lines.{lines}
use Rattle.std.proofs.lemmas.Result.{err_from_is_err_and, IfErr-weaker, IfOk-weaker}
use Rattle.litmus_text.specs.Statement.{statements_from}
use Rattle.program_text.specs.Line.{BeginsAsSetting}
use Rattle.program_text.proofs.EndLemmas.{fresh_read}
use Rattle.program_text.proofs.ReadingLemmas.{is_text, only_text, reading_none}
use Rattle.program_text.proofs.programs.Programs.read.Goals as goal

pub loop-statement-init : goal.loop-statement-init
loop-statement-init c =
    rw (c.new-settings.ensures, c.of-statements.ensures) (reading_none (statements_from 0 (lines c.args.input.now)))

pub returns-in_err-reader-clause-fault : goal.returns-in_err-reader-clause-fault
returns-in_err-reader-clause-fault c =
    let p = err_from_is_err_and c.from_residual.result c.from_residual.ensures.1 in
    let begins : ¬ BeginsAsSetting (map (λ w. w.now) c.in-Some.statement.words.items) = search rules in
    rw (p.1, p.2)
    (c.in_err-reader.ensures.fault _ _ (rw c.in-Some.ensures.steps at c.loop-statement.invariant) begins)

pub returns-then-not-begins_as_setting-clause-written : goal.returns-then-not-begins_as_setting-clause-written
returns-then-not-begins_as_setting-clause-written c =
    let reading = rw c.in-Some.ensures.steps at c.loop-statement.invariant in
    IfOk-weaker c.read.result _ _
    (λ programs read. is_text c.args.input.now programs
    (read (statements_from 0 (lines c.args.input.now)) (rw c.in_ok-reader.ensures.said reading)))
    c.read.ensures.read

pub returns-then-not-begins_as_setting-clause-only : goal.returns-then-not-begins_as_setting-clause-only
returns-then-not-begins_as_setting-clause-only c =
    let reading = rw c.in-Some.ensures.steps at c.loop-statement.invariant in
    IfOk-weaker c.read.result _ _
    (λ programs read settings limits others is. only_text c.args.input.now programs settings limits others
    (read (statements_from 0 (lines c.args.input.now)) (rw c.in_ok-reader.ensures.said reading)) is)
    c.read.ensures.read

pub returns-then-not-begins_as_setting-clause-fault : goal.returns-then-not-begins_as_setting-clause-fault
returns-then-not-begins_as_setting-clause-fault c =
    let reading = rw c.in-Some.ensures.steps at c.loop-statement.invariant in
    IfErr-weaker c.read.result _ _
    (λ fault at. at (statements_from 0 (lines c.args.input.now)) (rw c.in_ok-reader.ensures.said reading))
    c.read.ensures.fault

pub returns-in_err-configure-clause-fault : goal.returns-in_err-configure-clause-fault
returns-in_err-configure-clause-fault c =
    let p = err_from_is_err_and c.from_residual-in_err-configure.result c.from_residual-in_err-configure.ensures.1 in
    rw (p.1, p.2)
    (c.in_err-configure.ensures.fault _ _ (rw c.in-Some.ensures.steps at c.loop-statement.invariant))

pub returns-in_err-reader-2-clause-fault : goal.returns-in_err-reader-2-clause-fault
returns-in_err-reader-2-clause-fault c =
    let p = err_from_is_err_and c.from_residual-in_err-reader-2.result c.from_residual-in_err-reader-2.ensures.1 in
    rw (p.1, p.2)
    (c.in_err-reader-2.ensures.fault _ _ (rw c.in_default.ensures.steps.0 at c.loop-statement.invariant) tt)

pub returns-clause-written : goal.returns-clause-written
returns-clause-written c =
    is_text c.args.input.now c.in_ok-reader-2.reader.programs
    (fresh_read (statements_from 0 (lines c.args.input.now)) c.in_ok-reader-2.reader _ c.in_ok-reader-2.ensures.said
    c.in_ok-reader-2.ensures.counted.checked (rw c.in_default.ensures.steps.0 at c.loop-statement.invariant))

pub returns-clause-only : goal.returns-clause-only
returns-clause-only c = λ settings limits others is.
    only_text c.args.input.now c.in_ok-reader-2.reader.programs settings limits others
    (fresh_read (statements_from 0 (lines c.args.input.now)) c.in_ok-reader-2.reader _ c.in_ok-reader-2.ensures.said
    c.in_ok-reader-2.ensures.counted.checked (rw c.in_default.ensures.steps.0 at c.loop-statement.invariant)) is
