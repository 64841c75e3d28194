use Rattle.std.proofs.lemmas.Result.{IfOk-weaker}
use Rattle.litmus_command_line.proofs.BuiltLemmas.{rule-conflicting}
use Rattle.litmus_command_line.proofs.subcommands.parameter.lone.Goals as goal

pub returns : goal.returns
returns c rule free has =
    IfOk-weaker c.conflicts_with_all.result _ _ (λ made adds. rule-conflicting rule c.args.option made c.args.others.now free has adds)
    c.conflicts_with_all.ensures
