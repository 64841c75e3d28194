use Rattle.std.proofs.Common.{refl}
use Rattle.std.proofs.lemmas.Result.{IfOk-weaker}
use Rattle.litmus_command_line.proofs.subcommands.tables.export.Goals as goal

pub returns : goal.returns
returns c =
    IfOk-weaker c.subcommand.result _ _
    (λ made reads. record { forms = _; numbers = _; form_words = refl; number_words = refl; reads = reads })
    c.subcommand.ensures
