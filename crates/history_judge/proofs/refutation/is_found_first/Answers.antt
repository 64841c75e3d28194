use Rattle.slice_log.specs.Log.{initially}
use Rattle.history_judge.proofs.Rules.{source_before}
use Rattle.history_judge.proofs.refutation.is_found_first.Goals as goal

pub returns-in-Some : goal.returns-in-Some
returns-in-Some c = λ yes.
    source_before (initially c.args.initial.now) c.in-Some.reader.word.0 c.args.history.now c.args.first c.args.last
    (c.is_source.ensures yes)
