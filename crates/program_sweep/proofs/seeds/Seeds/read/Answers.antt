use Rattle.std.proofs.Common.{None, Some, codes}
use Rattle.std.proofs.lemmas.Result.{IfErr-weaker, IfOk-weaker}
use Rattle.std.proofs.lemmas.Str.Pattern.{split_text_parts}
use Rattle.program_sweep.proofs.SeedLemmas.{range_fault, range_read, seed_fault, seed_read}
use Rattle.program_sweep.proofs.seeds.Seeds.read.Goals as goal

pub returns-in-Some-clause-seeds : goal.returns-in-Some-clause-seeds
returns-in-Some-clause-seeds c =
    let whole = split_text_parts (codes "..") c.args.text.now (Some (c.in-Some.first, c.in-Some.last))
    c.in-Some.ensures.cases in
    let begins = rw c.as_bytes.ensures.value at c.parse_number-first.ensures in
    let ends = rw c.as_bytes-in-Some.ensures.value at c.parse_number-last.ensures in
    IfOk-weaker c.between.result _ _
    (λ seeds is. range_read c.args.text.now c.in-Some.first.now c.in-Some.last.now _ _ seeds whole begins ends is.0 is.1)
    c.between.ensures.seeds

pub returns-in-Some-clause-fault : goal.returns-in-Some-clause-fault
returns-in-Some-clause-fault c =
    let whole = split_text_parts (codes "..") c.args.text.now (Some (c.in-Some.first, c.in-Some.last))
    c.in-Some.ensures.cases in
    let begins = rw c.as_bytes.ensures.value at c.parse_number-first.ensures in
    let ends = rw c.as_bytes-in-Some.ensures.value at c.parse_number-last.ensures in
    IfErr-weaker c.between.result _ _
    (λ fault is. range_fault c.args.text.now c.in-Some.first.now c.in-Some.last.now _ _ fault whole begins ends is)
    c.between.ensures.fault

pub returns-in-None-clause-seeds : goal.returns-in-None-clause-seeds
returns-in-None-clause-seeds c =
    let parsed = rw c.as_bytes-in-None.ensures.value at c.parse_number-seed.ensures in
    IfOk-weaker c.between-in-None.result _ _
    (λ seeds is. seed_read c.args.text.now _ seeds parsed is.0 is.1)
    c.between-in-None.ensures.seeds

pub returns-in-None-clause-fault : goal.returns-in-None-clause-fault
returns-in-None-clause-fault c =
    let alone = split_text_parts (codes "..") c.args.text.now None c.in-None.ensures.cases in
    let parsed = rw c.as_bytes-in-None.ensures.value at c.parse_number-seed.ensures in
    IfErr-weaker c.between-in-None.result _ _
    (λ fault is. seed_fault c.args.text.now _ fault alone parsed is)
    c.between-in-None.ensures.fault
