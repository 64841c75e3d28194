use Rattle.std.proofs.Common.{sym, ◌∙◌}
use Rattle.litmus_text.proofs.ConfigLineLemmas.{nothing_fault, refused_line, unnamed_fault}
use Rattle.litmus_text.proofs.FieldLemmas.{named_field, unnamed_field}
use Rattle.litmus_text.proofs.FormLemmas.{no_field_written, no_words}
use Rattle.litmus_text.proofs.config_line.ConfigLine.parse.Goals as goal

pub returns-in_default-clause-fault : goal.returns-in_default-clause-fault
returns-in_default-clause-fault c =
    rw (no_words (λ w. w.now) c.args.words.now c.in_default.ensures.cases) nothing_fault

pub returns-in-None : goal.returns-in-None
returns-in-None c =
    let other = unnamed_field c.in-Some.name.now.now cc in
    rw c.in-Some.ensures.cases.0
    (record { written = tt; only = tt; refused = no_field_written _ _ other; fault = unnamed_fault _ _ other })

pub returns-in-Some-value_named-clause-written : goal.returns-in-Some-value_named-clause-written
returns-in-Some-value_named-clause-written c =
    let found = named_field c.in-Some.name.now.now _ (sym c.in-Some-value_named.is ∙ c.value_named.ensures) in
    rw (c.in-Some.ensures.cases.0, found) c.parse_called.ensures.written

pub returns-in-Some-value_named-clause-only : goal.returns-in-Some-value_named-clause-only
returns-in-Some-value_named-clause-only c =
    let found = named_field c.in-Some.name.now.now _ (sym c.in-Some-value_named.is ∙ c.value_named.ensures) in
    rw (c.in-Some.ensures.cases.0, found) c.parse_called.ensures.only

pub returns-in-Some-value_named-clause-fault : goal.returns-in-Some-value_named-clause-fault
returns-in-Some-value_named-clause-fault c =
    let found = named_field c.in-Some.name.now.now _ (sym c.in-Some-value_named.is ∙ c.value_named.ensures) in
    rw (c.in-Some.ensures.cases.0, found) c.parse_called.ensures.fault

pub returns-in-Some-value_named-clause-refused : goal.returns-in-Some-value_named-clause-refused
returns-in-Some-value_named-clause-refused c =
    refused_line (λ w. w.now) c.args.words.now _ (returns-in-Some-value_named-clause-fault c)
