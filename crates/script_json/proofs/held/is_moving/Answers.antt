use Rattle.script_json.proofs.HeldLemmas.{moving_none, moving_shown}
use Rattle.script_json.proofs.held.is_moving.Goals as goal

pub returns-in-Some : goal.returns-in-Some
returns-in-Some c =
    let shows = rw c.in-Some.is at c.line_view.ensures in
    moving_shown c.args.state.now.view _ c.in-Some.view c.is_at_rest.result shows c.is_at_rest.ensures

pub returns-in-None : goal.returns-in-None
returns-in-None c = moving_none c.args.state.now.view _ _ c.line_view.ensures c.in-None.is
