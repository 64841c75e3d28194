use Rattle.std.proofs.Common.{◌≡◌, true, refl, arith}
use Rattle.slice_log.specs.declared.entry.Entry.{Entry}
use Rattle.std.proofs.lemmas.Result.{err_from_is_err_and}
use Rattle.litmus_text.proofs.FormLemmas.{HasForm-Writes}
use Rattle.trace_check.specs.TraceLine.{IsInRange}
use Rattle.litmus_text.proofs.FaultLemmas.{handed_on}
use Rattle.trace_check.proofs.LineFaultLemmas.{access_fault, no_form_fault, number_fault, range_fault, short_fault}
use Rattle.trace_check.proofs.FormLemmas.{entry_written, entry_refused, entry_too_short, one_word, one_number}
use Rattle.trace_check.proofs.trace_line.parse_entry.Goals as goal
use Rattle.trace_check.proofs.trace_line.parse_entry.Goals.{then-core-cores-via-then-core-cores, then-core-cores-via-else-core-cores+then-tag-ge-MOST_TAGS, then-core-cores-via-else-core-cores+else-tag-ge-MOST_TAGS+then-word-ge-MOST_WORDS}

pub returns-clause-written : goal.returns-clause-written
unfolding IsInRange
returns-clause-written c =
    let words = c.in-Some.words in
    record {
      written =
          entry_written _ words.core.now words.seq.now words.tag.now _ words.reply.now words.since.now _
          c.in-Some.ensures.parts
          c.in_ok-core.ensures.ok c.in_ok-seq.ensures.ok c.in_ok-tag.ensures.ok c.in_ok-op.ensures.written
          c.in_ok-reply.ensures.ok c.in_ok-since.ensures.ok;
      in_range = record {
        op = (c.has_access.ensures c.in_ok-op.op c.in_ok-op.word.0
            (HasForm-Writes _ _ c.in_ok-op.ensures.written)).0
            c.if-not-has_access.false;
        core = omega arith;
        tag = omega arith;
        word = omega arith;
      };
    }

pub returns-in_default-clause-refused : goal.returns-in_default-clause-refused
returns-in_default-clause-refused c =
    entry_too_short c.args.version _ c.in_default.ensures.short

pub returns-then-not-has_access-clause-refused : goal.returns-then-not-has_access-clause-refused
returns-then-not-has_access-clause-refused c =
    entry_refused c.args.version _ _ _ _ _ _ _ c.in-Some.ensures.parts
    (λ e words range. let has : c.has_access.result ≡ true =
    (c.has_access.ensures e.op e.word.0 (HasForm-Writes _ _ words.written)).1 range.op in cc)

pub returns-in_err-op-clause-refused : goal.returns-in_err-op-clause-refused
returns-in_err-op-clause-refused c =
    let p = err_from_is_err_and c.from_residual.result c.from_residual.ensures.1 in
    rw p.1 (entry_refused c.args.version _ _ _ _ _ _ _ c.in-Some.ensures.parts
    (λ e words range. c.in_err-op.ensures.refused e.op e.word.0 words.written))

pub returns-in_err-reply-clause-refused : goal.returns-in_err-reply-clause-refused
returns-in_err-reply-clause-refused c =
    let p = err_from_is_err_and c.from_residual-in_err-reply.result c.from_residual-in_err-reply.ensures.1 in
    rw p.1 (entry_refused c.args.version _ _ _ _ _ _ _ c.in-Some.ensures.parts
    (λ e words range. c.in_err-reply.ensures.ok words.reply.0))

pub returns-in_err-since-clause-refused : goal.returns-in_err-since-clause-refused
returns-in_err-since-clause-refused c =
    let p = err_from_is_err_and c.from_residual-in_err-since.result c.from_residual-in_err-since.ensures.1 in
    rw p.1 (entry_refused c.args.version _ _ _ _ _ _ _ c.in-Some.ensures.parts
    (λ e words range. c.in_err-since.ensures.ok words.since.0))

pub returns-then-core-cores-clause-refused : goal.returns-then-core-cores-clause-refused
returns-then-core-cores-clause-refused c =
    entry_refused c.args.version _ _ _ _ _ _ _ c.in-Some.ensures.parts
    (λ e words range.
    let core : e.core.0 ≡ c.in_ok-core.core =
    one_number c.in-Some.words.core.now _ _ words.core c.in_ok-core.ensures.ok.1 in
    let tag : e.tag ≡ c.in_ok-tag.tag = one_number c.in-Some.words.tag.now _ _ words.tag c.in_ok-tag.ensures.ok.1 in
    let word : e.word.0 ≡ c.in_ok-op.word.0 =
    one_word _ e.op c.in_ok-op.op e.word.0 c.in_ok-op.word.0 words.written c.in_ok-op.ensures.written in
    elim c.then-core-cores.branch [
      | then-core-cores-via-then-core-cores w ↦ omega arith
      | then-core-cores-via-else-core-cores+then-tag-ge-MOST_TAGS w ↦ omega arith
      | then-core-cores-via-else-core-cores+else-tag-ge-MOST_TAGS+then-word-ge-MOST_WORDS w ↦ omega arith
    ])

pub returns-in_default-clause-fault : goal.returns-in_default-clause-fault
returns-in_default-clause-fault c = short_fault c.args.version _ c.in_default.ensures.short

pub returns-then-not-has_access-clause-fault : goal.returns-then-not-has_access-clause-fault
returns-then-not-has_access-clause-fault c =
    no_form_fault c.args.version _ _ _ _ _ _ _ c.in-Some.ensures.parts
    (λ op word form known. let has : c.has_access.result ≡ true = (c.has_access.ensures op word form).1 known in cc)

pub returns-in_err-op-clause-fault : goal.returns-in_err-op-clause-fault
returns-in_err-op-clause-fault c =
    handed_on _ _ c.from_residual.result c.from_residual.ensures.1
    (access_fault c.args.version _ _ _ _ _ _ _ _ c.in-Some.ensures.parts
    (λ op word form. (c.has_access.ensures op word form).0 c.if-not-has_access.false) c.in_err-op.ensures.fault)

pub returns-in_err-core-clause-fault : goal.returns-in_err-core-clause-fault
returns-in_err-core-clause-fault c =
    let form = HasForm-Writes _ _ c.in_ok-op.ensures.written in
    handed_on _ _ c.from_residual-in_err-core.result c.from_residual-in_err-core.ensures.1
    (number_fault c.args.version _ _ _ _ _ _ _ c.in_ok-op.op c.in_ok-op.word.0 _ c.in-Some.ensures.parts form
    ((c.has_access.ensures _ _ form).0 c.if-not-has_access.false)
    (λ e words. c.in_err-core.ensures.ok words.core.0) c.in_err-core.ensures.err)

pub returns-in_err-seq-clause-fault : goal.returns-in_err-seq-clause-fault
returns-in_err-seq-clause-fault c =
    let form = HasForm-Writes _ _ c.in_ok-op.ensures.written in
    handed_on _ _ c.from_residual-in_err-seq.result c.from_residual-in_err-seq.ensures.1
    (number_fault c.args.version _ _ _ _ _ _ _ c.in_ok-op.op c.in_ok-op.word.0 _ c.in-Some.ensures.parts form
    ((c.has_access.ensures _ _ form).0 c.if-not-has_access.false)
    (λ e words. c.in_err-seq.ensures.ok words.seq.0) c.in_err-seq.ensures.err)

pub returns-in_err-tag-clause-fault : goal.returns-in_err-tag-clause-fault
returns-in_err-tag-clause-fault c =
    let form = HasForm-Writes _ _ c.in_ok-op.ensures.written in
    handed_on _ _ c.from_residual-in_err-tag.result c.from_residual-in_err-tag.ensures.1
    (number_fault c.args.version _ _ _ _ _ _ _ c.in_ok-op.op c.in_ok-op.word.0 _ c.in-Some.ensures.parts form
    ((c.has_access.ensures _ _ form).0 c.if-not-has_access.false)
    (λ e words. c.in_err-tag.ensures.ok words.tag.0) c.in_err-tag.ensures.err)

pub returns-in_err-reply-clause-fault : goal.returns-in_err-reply-clause-fault
returns-in_err-reply-clause-fault c =
    let form = HasForm-Writes _ _ c.in_ok-op.ensures.written in
    handed_on _ _ c.from_residual-in_err-reply.result c.from_residual-in_err-reply.ensures.1
    (number_fault c.args.version _ _ _ _ _ _ _ c.in_ok-op.op c.in_ok-op.word.0 _ c.in-Some.ensures.parts form
    ((c.has_access.ensures _ _ form).0 c.if-not-has_access.false)
    (λ e words. c.in_err-reply.ensures.ok words.reply.0) c.in_err-reply.ensures.err)

pub returns-in_err-since-clause-fault : goal.returns-in_err-since-clause-fault
returns-in_err-since-clause-fault c =
    let form = HasForm-Writes _ _ c.in_ok-op.ensures.written in
    handed_on _ _ c.from_residual-in_err-since.result c.from_residual-in_err-since.ensures.1
    (number_fault c.args.version _ _ _ _ _ _ _ c.in_ok-op.op c.in_ok-op.word.0 _ c.in-Some.ensures.parts form
    ((c.has_access.ensures _ _ form).0 c.if-not-has_access.false)
    (λ e words. c.in_err-since.ensures.ok words.since.0) c.in_err-since.ensures.err)

pub returns-then-core-cores-clause-fault : goal.returns-then-core-cores-clause-fault
returns-then-core-cores-clause-fault c =
    let words = c.in-Some.words in
    let form = HasForm-Writes _ _ c.in_ok-op.ensures.written in
    let said : Entry = record {
      op = c.in_ok-op.op;
      word = c.in_ok-op.word;
      seq = c.in_ok-seq.seq;
      reply = c.in_ok-reply.reply;
      since = c.in_ok-since.since;
      core = record { 0 = c.in_ok-core.core };
      tag = c.in_ok-tag.tag;
    } in
    range_fault c.args.version _ _ _ _ _ _ _ said _ c.in-Some.ensures.parts (
      entry_written _ words.core.now words.seq.now words.tag.now _ words.reply.now words.since.now said
          c.in-Some.ensures.parts c.in_ok-core.ensures.ok c.in_ok-seq.ensures.ok c.in_ok-tag.ensures.ok
          c.in_ok-op.ensures.written c.in_ok-reply.ensures.ok c.in_ok-since.ensures.ok,
      (c.has_access.ensures _ _ form).0 c.if-not-has_access.false,
    )
    (λ e words range.
    let core : e.core.0 ≡ c.in_ok-core.core =
    one_number c.in-Some.words.core.now _ _ words.core c.in_ok-core.ensures.ok.1 in
    let tag : e.tag ≡ c.in_ok-tag.tag = one_number c.in-Some.words.tag.now _ _ words.tag c.in_ok-tag.ensures.ok.1 in
    let word : e.word.0 ≡ c.in_ok-op.word.0 =
    one_word _ e.op c.in_ok-op.op e.word.0 c.in_ok-op.word.0 words.written c.in_ok-op.ensures.written in
    elim c.then-core-cores.branch [
      | then-core-cores-via-then-core-cores w ↦ omega (arith, range.core)
      | then-core-cores-via-else-core-cores+then-tag-ge-MOST_TAGS w ↦ omega (arith, range.tag)
      | then-core-cores-via-else-core-cores+else-tag-ge-MOST_TAGS+then-word-ge-MOST_WORDS w ↦ omega (arith, range.word)
    ]) refl
