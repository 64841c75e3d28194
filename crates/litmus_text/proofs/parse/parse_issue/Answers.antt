use Rattle.std.proofs.Common.{ℕ, List, [], Bor}
use Rattle.litmus_text.proofs.CommandLemmas.{behind_two, issue_access, issue_lacks, issue_number, issue_short}
use Rattle.litmus_text.proofs.CommandLemmas.{reads_none}
use Rattle.litmus_text.proofs.parse.parse_issue.Goals as goal

abbrev no_word : Bor (List ℕ)
no_word = record { ref_ptr = (0, 0); now = [] }

pub returns-in_default : goal.returns-in_default
returns-in_default c =
    record { read = tt; fault = issue_short c.args.config.now (λ w. w.now) c.args.words.now c.in_default.len_below }

pub returns-in_err-op : goal.returns-in_err-op
returns-in_err-op c =
    rw (behind_two (λ w. w.now) c.args.words.now no_word c.in-len2-up.len_at_least)
    (reads_none _ c.from_residual.result c.from_residual.ensures.1
    (issue_access _ _ _ _ _ c.in_err-op.ensures.fault))

pub returns-in_err-core : goal.returns-in_err-core
returns-in_err-core c =
    rw (behind_two (λ w. w.now) c.args.words.now no_word c.in-len2-up.len_at_least)
    (reads_none _ c.from_residual-in_err-core.result c.from_residual-in_err-core.ensures.1
    (issue_number _ _ _ _ _ _ c.in_ok-op.ensures.written (λ core tag small. c.in_err-core.ensures.ok core) _
    c.in_err-core.ensures.err))

pub returns-in_err-tag : goal.returns-in_err-tag
returns-in_err-tag c =
    rw (behind_two (λ w. w.now) c.args.words.now no_word c.in-len2-up.len_at_least)
    (reads_none _ c.from_residual-in_err-tag.result c.from_residual-in_err-tag.ensures.1
    (issue_number _ _ _ _ _ _ c.in_ok-op.ensures.written (λ core tag small. c.in_err-tag.ensures.ok (tag, small)) _
    c.in_err-tag.ensures.err))

pub returns-in_err-core_in : goal.returns-in_err-core_in
returns-in_err-core_in c =
    rw (behind_two (λ w. w.now) c.args.words.now no_word c.in-len2-up.len_at_least)
    (reads_none _ c.from_residual-in_err-core_in.result c.from_residual-in_err-core_in.ensures.1
    (issue_lacks c.args.config.now _ _ _ _ _ _ c.in_ok-op.ensures.written c.in_ok-core.ensures.ok.0
    c.in_ok-core.ensures.ok.1 c.in_ok-tag.ensures.ok.0.0 c.in_ok-tag.ensures.ok.0.1 c.in_err-core_in.ensures.ok _
    c.in_err-core_in.ensures.err))
