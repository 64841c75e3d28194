use Rattle.std.specs.Str.Parse.{ExplainsUnsignedError, HasUnsignedDigitsIfOk, ParsesUnsigned}
use Rattle.clap.specs.Words.{found_of}
use Rattle.litmus_command_line.proofs.AskedLemmas.{number_given}
use Rattle.litmus_command_line.proofs.command_line.number_of.Goals as goal

pub returns : goal.returns
returns c =
    let one = c.get_one in
    number_given _ (λ bs r. ParsesUnsigned 64 10 bs r × ExplainsUnsignedError 10 bs r × HasUnsignedDigitsIfOk bs r)
    (found_of c.args.given.now) c.args.name.now one.result (λ t r given. given.0) one.ensures.none one.ensures.value
