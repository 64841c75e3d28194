use Rattle.std.proofs.Common.{sym, ◌∙◌}
use Rattle.program_run.proofs.FrontLemmas.{next-planned}
use Rattle.program_run.proofs.front.next_from.Goals as goal

pub returns-in-Moved : goal.returns-in-Moved
returns-in-Moved c = λ count idle front.
    next-planned c.args.state.now count c.args.pick _ idle front (sym c.plan.ensures ∙ c.in-Moved.is)
