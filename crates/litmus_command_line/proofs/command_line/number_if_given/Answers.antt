use Rattle.std.proofs.Common.{rules}
use Rattle.clap.specs.Words.{found_of}
use Rattle.litmus_command_line.proofs.AskedLemmas.{none_given}
use Rattle.litmus_command_line.proofs.command_line.number_if_given.Goals as goal

pub returns-then-is_none : goal.returns-then-is_none
returns-then-is_none c =
    none_given (found_of c.args.given.now) c.args.name.now c.get_str.result (search rules) c.get_str.ensures
