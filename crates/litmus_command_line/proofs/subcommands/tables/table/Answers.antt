use Rattle.std.proofs.Common.{refl}
use Rattle.std.proofs.lemmas.Result.{IfOk-weaker}
use Rattle.litmus_command_line.proofs.subcommands.tables.table.Goals as goal

pub returns : goal.returns
returns c =
    IfOk-weaker c.subcommand.result _ _ (λ made reads. record { names = _; words = refl; reads = reads })
    c.subcommand.ensures
