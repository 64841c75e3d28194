use Rattle.std.proofs.Common.{sym}
use Rattle.litmus_script.proofs.EntryLemmas.{initial_pieces}
use Rattle.litmus_script.proofs.trace_text.push_initial.Goals as goal

pub returns : goal.returns
returns c =
    rw (
      c.push_str-2.ensures.bytes,
      c.push_number-2.ensures.bytes,
      c.push_number.ensures.bytes,
      c.push_str.ensures.bytes,
      c.requires,
    )
    (sym (initial_pieces c.args.word.0 c.args.value))
