use Rattle.script_page.proofs.RestLemmas.{command_rest, delivered_rest}
use Rattle.script_page.proofs.rest.what_is_not_given_stays.Goals as goal

pub returns-clause-commands : goal.returns-clause-commands
returns-clause-commands c config command old new step slices known made =
    command_rest config command old new step slices known made

pub returns-clause-deliveries : goal.returns-clause-deliveries
returns-clause-deliveries c config slice pick scope old new made slices told is =
    delivered_rest config slice pick scope old new made slices told is
