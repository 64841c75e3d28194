use Rattle.std.proofs.Common.{refl, sym}
use Rattle.litmus_text.proofs.FormLemmas.{no_words}
use Rattle.litmus_test.proofs.LineLemmas.{no_empty_line, no_line}
use Rattle.litmus_test.proofs.line.Line.parse.Goals as goal

pub returns-in_default : goal.returns-in_default
returns-in_default c =
    rw (no_words (λ w. w.now) c.args.words.now c.in_default.ensures.cases)
    (record { reads = record { written = tt; only = tt; refused = no_empty_line c.args.version }; form = refl })

pub returns-in-None : goal.returns-in-None
returns-in-None c =
    rw c.in-Some.ensures.cases.0
    (record {
      reads = record {
        written = tt;
        only = tt;
        refused = no_line c.args.version _ _ (rw c.in-Some.ensures.cases.0 at c.requires) c.in-None.ensures.none;
      };
      form = rw (sym c.in-None.ensures.value) refl;
    })
