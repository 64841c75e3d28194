use Rattle.std.proofs.lemmas.Result.{on_ok_weaker}
use Rattle.address_map.specs.Locator.{local_at}
use Rattle.program_run.proofs.OwedLemmas.{line_listed, no_line_listed}
use Rattle.program_run.proofs.front.list_line.Goals as goal

pub returns-in-Some : goal.returns-in-Some
returns-in-Some c =
    let v = c.args.state.now.view in
    on_ok_weaker c.push_all.result
    (λ pushed. line_listed v c.args.line (local_at v.lines c.args.line.0) _ _ _ c.in-Some.ensures.waiting pushed)
    c.push_all.ensures

pub returns-in-None : goal.returns-in-None
returns-in-None c = no_line_listed c.args.state.now.view c.args.line _ c.in-None.ensures.there
