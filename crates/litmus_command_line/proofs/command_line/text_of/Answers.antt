use Rattle.clap.specs.Words.{found_of}
use Rattle.litmus_command_line.proofs.AskedLemmas.{first_given}
use Rattle.litmus_command_line.proofs.command_line.text_of.Goals as goal

pub returns : goal.returns
returns c = first_given (found_of c.args.given.now) c.args.name.now c.get_str.result c.get_str.ensures
