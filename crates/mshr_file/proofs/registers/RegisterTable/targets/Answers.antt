use Rattle.std.proofs.Common.{◌∙◌, sym, ap}
use Rattle.std.proofs.lemmas.List.{get_or_default}
use Rattle.mshr_file.specs.Register.{no_register}
use Rattle.mshr_file.proofs.Rows.{served_at, unserved}
use Rattle.mshr_file.proofs.registers.RegisterTable.targets.Goals as goal

pub returns-in-Some : goal.returns-in-Some
returns-in-Some c =
    let table = c.args.self.now in
    let found = sym c.search.ensures ∙ c.in-Some.is in
    let at = served_at table c.args.line.0 c.in-Some.place c.requires found in
    let same = c.index.ensures
    ∙ get_or_default table.registers.items.items c.in-Some.place c.index.result.now no_register at.inside in
    c.to_vec.ensures ∙ ap (λ r. r.targets) same ∙ sym at.waits

pub returns-in-None : goal.returns-in-None
returns-in-None c =
    let missing = sym c.search.ensures ∙ c.in-None.is in
    c.new.ensures ∙ sym (unserved c.args.self.now c.args.line.0 c.requires missing)
