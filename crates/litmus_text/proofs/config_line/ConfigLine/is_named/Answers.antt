use Rattle.litmus_text.proofs.FieldLemmas.{is_field_name}
use Rattle.litmus_text.proofs.config_line.ConfigLine.is_named.Goals as goal

pub returns : goal.returns
returns c = is_field_name c.args.name.now c.value_named.result c.is_some.result c.value_named.ensures cc
