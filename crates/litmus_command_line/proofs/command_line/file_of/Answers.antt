use Rattle.std.proofs.Common.{codes}
use Rattle.clap.specs.Words.{found_of}
use Rattle.litmus_command_line.proofs.AskedLemmas.{first_given}
use Rattle.litmus_command_line.proofs.command_line.file_of.Goals as goal

pub returns : goal.returns
returns c = first_given (found_of c.args.given.now) (codes "FILE") c.get_str.result c.get_str.ensures
