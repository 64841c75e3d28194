use Rattle.std.proofs.Common.{ℕ, List, [], Bor}
use Rattle.std.proofs.lemmas.Result.{err_from_is_err_and}
use Rattle.history_text.proofs.HistoryLines.{behind_one, core_short, reads_timed, reads_untimed, timed}
use Rattle.history_text.proofs.history_line.parse_core.Goals as goal

abbrev no_word : Bor (List ℕ)
no_word = record { ref_ptr = (0, 0); now = [] }

pub returns-in_default : goal.returns-in_default
returns-in_default c = record {
  written = tt;
  refused = λ line. core_short (λ w. w.now) c.args.words.now line c.in_default.len_below;
}

pub returns-in_err-parse-in-Some : goal.returns-in_err-parse-in-Some
returns-in_err-parse-in-Some c =
    let p = err_from_is_err_and c.from_residual.result c.from_residual.ensures.1 in
    rw (p.1, behind_one (λ w. w.now) c.args.words.now no_word c.in-len1-up.len_at_least)
    (record {
      written = tt;
      refused = λ line is. let by = timed _ _ _ _ line c.in-Some.ensures.some is in
          c.in_err-parse-in-Some.ensures.refused by.begin by.end by.interval;
    })

pub returns-in_ok-parse-in-Some : goal.returns-in_ok-parse-in-Some
returns-in_ok-parse-in-Some c =
    rw (behind_one (λ w. w.now) c.args.words.now no_word c.in-len1-up.len_at_least)
    (reads_timed _ _ _ _ _ _ _ c.in-Some.ensures.some c.in_ok-parse-in-Some.ensures.written
    c.in_ok-parse-in-Some.ensures.only c.parse_access.ensures.line c.parse_access.ensures.refused)

pub returns-in-None : goal.returns-in-None
returns-in-None c =
    rw (behind_one (λ w. w.now) c.args.words.now no_word c.in-len1-up.len_at_least)
    (reads_untimed _ _ _ c.in-None.ensures.none c.parse_access-in-None.ensures.line
    c.parse_access-in-None.ensures.refused)
