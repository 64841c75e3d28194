use Rattle.std.proofs.lemmas.Str.Ascii.{trim_ascii_end_is, trim_ascii_start_is}
use Rattle.changed_tables.proofs.word.trimmed.Goals as goal

pub returns : goal.returns
returns c =
    rw (trim_ascii_start_is _ _ c.trim_ascii_start.ensures.value) at
    (trim_ascii_end_is _ _ c.trim_ascii_end.ensures.value)
