use Rattle.litmus_text.proofs.FormLemmas.{no_words}
use Rattle.program_text.proofs.LineLemmas.{no_empty_line, no_line}
use Rattle.program_text.proofs.line.Line.parse.Goals as goal

pub returns-in_default-clause-reads : goal.returns-in_default-clause-reads
returns-in_default-clause-reads c =
    rw (no_words (λ w. w.now) c.args.words.now c.in_default.ensures.cases)
    (record { written = tt; only = tt; refused = no_empty_line })

pub returns-in-None-clause-reads : goal.returns-in-None-clause-reads
returns-in-None-clause-reads c =
    rw c.in-Some.ensures.cases.0
    (record {
      written = tt;
      only = tt;
      refused = no_line _ _ (rw c.in-Some.ensures.cases.0 at c.requires) c.in-None.ensures.none;
    })
