use Rattle.std.proofs.Common.{sym, ◌∙◌}
use Rattle.litmus_text.proofs.AccessLemmas.{named_access, no_access_written, nothing_fault, nothing_written}
use Rattle.litmus_text.proofs.AccessLemmas.{refused_access, unnamed_access, unnamed_fault}
use Rattle.litmus_text.proofs.FormLemmas.{no_words}
use Rattle.litmus_text.proofs.parse.parse_access.Goals as goal

pub returns-in_default : goal.returns-in_default
returns-in_default c =
    rw (no_words (λ w. w.now) c.args.words.now c.in_default.ensures.cases)
    (record { written = tt; refused = nothing_written; fault = nothing_fault })

pub returns-in-None : goal.returns-in-None
returns-in-None c =
    let other = unnamed_access c.in-Some.name.now.now cc in
    rw c.in-Some.ensures.cases.0
    (record { written = tt; refused = no_access_written _ _ other; fault = unnamed_fault _ _ other })

pub returns-in-Some-value_named-clause-written : goal.returns-in-Some-value_named-clause-written
returns-in-Some-value_named-clause-written c =
    let found = named_access c.in-Some.name.now.now _ (sym c.in-Some-value_named.is ∙ c.value_named.ensures) in
    rw (c.in-Some.ensures.cases.0, found) c.parse_access_called.ensures.written

pub returns-in-Some-value_named-clause-fault : goal.returns-in-Some-value_named-clause-fault
returns-in-Some-value_named-clause-fault c =
    let found = named_access c.in-Some.name.now.now _ (sym c.in-Some-value_named.is ∙ c.value_named.ensures) in
    rw (c.in-Some.ensures.cases.0, found) c.parse_access_called.ensures.fault

pub returns-in-Some-value_named-clause-refused : goal.returns-in-Some-value_named-clause-refused
returns-in-Some-value_named-clause-refused c =
    refused_access (λ w. w.now) c.args.words.now _ (returns-in-Some-value_named-clause-fault c)
