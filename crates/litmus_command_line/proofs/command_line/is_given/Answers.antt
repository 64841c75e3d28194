use Rattle.std.proofs.Common.{◌∙◌}
use Rattle.clap.specs.Words.{found_of}
use Rattle.litmus_command_line.proofs.AskedLemmas.{flag_given}
use Rattle.litmus_command_line.proofs.command_line.is_given.Goals as goal

pub returns : goal.returns
returns c =
    let one = c.get_one in
    c.unwrap_or.ensures
    ∙ flag_given _ (found_of c.args.given.now) c.args.name.now one.result one.ensures.none one.ensures.value
