use Rattle.std.proofs.Common.{◌∙◌, refl, subst}
use Rattle.std.proofs.Output.{writes_in_calls_nil}
use Rattle.std.specs.Fmt.{WritesInCalls}
use Rattle.script_json.proofs.HeldLemmas.{count_shown, none_listed}
use Rattle.script_json.proofs.held.write_copies.Goals as goal

pub write_copies_of-requires : goal.write_copies_of-requires
write_copies_of-requires g c =
    let shows = rw c.in-Some.is at c.line_view.ensures in
    c.count_of.ensures.count ∙ count_shown c.args.state.now.view _ c.in-Some.view shows

pub returns-in-None : goal.returns-in-None
returns-in-None g c =
    subst (λ text. WritesInCalls g.W.Write.write_str_gives c.args.out.now text c.args.out.now)
    (none_listed c.args.state.now.view c.args.line _ _ refl c.line_view.ensures c.in-None.is)
    (writes_in_calls_nil g.W.Write.write_str_gives c.args.out.now)
