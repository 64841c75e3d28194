use Rattle.script_json.proofs.HeldLemmas.{message_found, no_message}
use Rattle.script_json.proofs.held.has_message.Goals as goal

pub returns-in-Some : goal.returns-in-Some
returns-in-Some c =
    message_found c.args.state.now.view _ _ _ (rw c.in-Some.is at c.waiting_at.ensures.waiting) c.is_any.ensures

pub returns-in-None : goal.returns-in-None
returns-in-None c = no_message c.args.state.now.view _ (rw c.in-None.is at c.waiting_at.ensures.there)
