use Rattle.std.proofs.Common.{◌∙◌, sym, ap, length}
use Rattle.mshr_file.proofs.Rows.{served_at, unserved, row_at}
use Rattle.mshr_file.proofs.registers.RegisterTable.waiting.Goals as goal

pub returns-in-Some-clause-count : goal.returns-in-Some-clause-count
returns-in-Some-clause-count c =
    let table = c.args.self.now in
    let found = sym c.search.ensures ∙ c.in-Some.is in
    let at = served_at table c.args.line.0 c.in-Some.place c.requires found in
    ap (λ row. row.waiting) (c.index.ensures ∙ row_at table c.in-Some.place c.index.result.now c.requires at.inside)
    ∙ ap length (sym at.waits)

pub returns-in-None-clause-count : goal.returns-in-None-clause-count
returns-in-None-clause-count c =
    let missing = sym c.search.ensures ∙ c.in-None.is in
    ap length (sym (unserved c.args.self.now c.args.line.0 c.requires missing))
