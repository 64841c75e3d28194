use Rattle.std.proofs.Common.{refl}
use Rattle.litmus_command_line.proofs.subcommands.parameter.Parameter.arg.Goals as goal

pub returns-in-LoneFlag : goal.returns-in-LoneFlag
returns-in-LoneFlag c = rw c.in-LoneFlag.is (c.lone.ensures _ refl c.flag-in-LoneFlag.ensures)

pub returns-in-LoneText : goal.returns-in-LoneText
returns-in-LoneText c = rw c.in-LoneText.is (c.lone-in-LoneText.ensures _ refl c.text-in-LoneText.ensures)
