use Rattle.std.proofs.Common.{sym, ◌∙◌}
use Rattle.address_map.specs.Locator.{local_at}
use Rattle.program_run.proofs.FrontLemmas.{idle-line}
use Rattle.program_run.proofs.front.front_of.Goals as goal

pub returns-in-None : goal.returns-in-None
returns-in-None c =
    let v = c.args.state.now.view in
    idle-line v c.args.line (local_at v.lines c.args.line.0) _ c.in-Some.ensures.waiting
    (sym c.in-None.is ∙ c.next.ensures.first)
