use Rattle.script_coverage.proofs.Reading.{no_names_in}
use Rattle.script_coverage.proofs.read.count_of.Goals as goal

pub returns-in_default-number-clause-refused : goal.returns-in_default-number-clause-refused
returns-in_default-number-clause-refused c =
    no_names_in c.args.words.now _ c.in-len5.len_at_least c.in-len5.len_below c.in_default-number.ensures.none
