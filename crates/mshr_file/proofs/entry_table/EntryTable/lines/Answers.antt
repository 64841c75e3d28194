use Rattle.std.proofs.Common.{ap, ◌∙◌}
use Rattle.std.proofs.lemmas.Result.{IfOk-weaker}
use Rattle.mshr_file.specs.Waiting.{lines_from, waiting_in}
use Rattle.mshr_file.proofs.LinesWaited.{lines_of_slots}
use Rattle.mshr_file.proofs.entry_table.EntryTable.lines.Goals as goal

pub returns : goal.returns
returns c =
    IfOk-weaker c.lines_from.result _ _
    (λ lines is.
    is ∙ ap lines_from (c.as_slice.ensures.value ∙ c.requires.slots) ∙ lines_of_slots (waiting_in c.args.self.now))
    c.lines_from.ensures
