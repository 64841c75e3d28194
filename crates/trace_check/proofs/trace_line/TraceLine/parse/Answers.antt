use Rattle.std.proofs.Common.{rules, sym, ◌∙◌}
use Rattle.std.proofs.lemmas.Bool.{false≢true}
use Rattle.std.proofs.lemmas.Bool.Decides.{Decides-eqb}
use Rattle.std.proofs.lemmas.Slice.Eq.{slice_eq-Decides}
use Rattle.litmus_text.proofs.FormLemmas.{no_words}
use Rattle.trace_check.proofs.LineFaultLemmas.{nothing_fault, unnamed_fault}
use Rattle.trace_check.proofs.trace_line.TraceLine.parse.Goals as goal

pub returns-in_default-clause-fault : goal.returns-in_default-clause-fault
returns-in_default-clause-fault c =
    rw (no_words (λ w. w.now) c.args.words.now c.in_default.ensures.cases) (nothing_fault c.args.version)

pub returns-then-eq-clause-refused : goal.returns-then-eq-clause-refused
returns-then-eq-clause-refused c = search (rules, c.parse_init.ensures.refused c.args.version)

pub returns-clause-fault : goal.returns-clause-fault
returns-clause-fault c =
    let name = c.in-Some.name.now.now in
    rw c.in-Some.ensures.cases.0
    (unnamed_fault c.args.version name _
    (λ is. false≢true (sym c.if-eq.false
    ∙ (slice_eq-Decides Decides-eqb _ _ _ c.eq.ensures).1 (is ∙ sym c.as_slice.ensures)))
    (λ is. false≢true (sym c.if-eq-2.false
    ∙ (slice_eq-Decides Decides-eqb _ _ _ c.eq-2.ensures).1 (is ∙ sym c.as_slice-2.ensures))))
