use Rattle.std.proofs.Common.{ap, filter, map, not, ◌∙◌}
use Rattle.std.proofs.lemmas.Result.{IfOk-weaker}
use Rattle.mshr_file.specs.Register.{is_free_row}
use Rattle.mshr_file.specs.declared.registers.Row.{Row}
use Rattle.mshr_file.proofs.LinesWaited.{lines_of_table}
use Rattle.mshr_file.proofs.registers.RegisterTable.lines.Goals as goal

pub returns : goal.returns
returns c =
    IfOk-weaker c.lines_in_use.result _ _
    (λ lines is.
    is
    ∙ ap (λ rows. map (λ (row : Row). row.line) (filter (λ row. not (is_free_row row)) rows)) c.deref.ensures.value
    ∙ lines_of_table c.args.self.now c.requires)
    c.lines_in_use.ensures
