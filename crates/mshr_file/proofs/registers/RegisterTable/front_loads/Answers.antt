use Rattle.std.proofs.Common.{◌∙◌, sym, ap, length, arith}
use Rattle.target_list.specs.Target.{front_loads}
use Rattle.std.proofs.lemmas.List.{get_or_default}
use Rattle.mshr_file.specs.Register.{no_register}
use Rattle.mshr_file.proofs.Rows.{served_at, unserved}
use Rattle.mshr_file.proofs.registers.RegisterTable.front_loads.Goals as goal

pub returns-in-Some-clause-count : goal.returns-in-Some-clause-count
returns-in-Some-clause-count c =
    let table = c.args.self.now in
    let found = sym c.search.ensures ∙ c.in-Some.is in
    let at = served_at table c.args.line.0 c.in-Some.place c.requires found in
    let same = c.index.ensures
    ∙ get_or_default table.registers.items.items c.in-Some.place c.index.result.now no_register at.inside in
    c.front_loads.ensures.count ∙ ap (λ targets. length (front_loads targets)) (ap (λ r. r.targets) same ∙ sym at.waits)

pub returns-in-Some-clause-within : goal.returns-in-Some-clause-within
returns-in-Some-clause-within c =
    let table = c.args.self.now in
    let found = sym c.search.ensures ∙ c.in-Some.is in
    let at = served_at table c.args.line.0 c.in-Some.place c.requires found in
    let same = c.index.ensures
    ∙ get_or_default table.registers.items.items c.in-Some.place c.index.result.now no_register at.inside in
    let equal = ap length (ap (λ r. r.targets) same ∙ sym at.waits) in
    let within = c.front_loads.ensures.within in
    omega (arith, equal, within)

pub returns-in-None-clause-count : goal.returns-in-None-clause-count
returns-in-None-clause-count c =
    let missing = sym c.search.ensures ∙ c.in-None.is in
    ap (λ targets. length (front_loads targets)) (sym (unserved c.args.self.now c.args.line.0 c.requires missing))
