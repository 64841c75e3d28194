use Rattle.std.proofs.Common.{sym}
use Rattle.litmus_script.proofs.EntryLemmas.{entry_pieces}
use Rattle.litmus_script.proofs.trace_text.push_entry.Goals as goal

pub returns : goal.returns
returns c =
    let e = c.args.entry.now in
    rw (
      c.push_str-2.ensures.bytes,
      c.push_number-5.ensures.bytes,
      c.push_number-4.ensures.bytes,
      c.push_access.ensures.bytes,
      c.push_number-3.ensures.bytes,
      c.push_number-2.ensures.bytes,
      c.push_number.ensures.bytes,
      c.push_str.ensures.bytes,
      c.requires,
    )
    (sym (entry_pieces e.core.0 e.seq e.tag e.word.0 e.reply e.since e.op))
