use Rattle.litmus_test.proofs.NameLemmas.{each_name_has_request}
use Rattle.litmus_test.proofs.outcomes.named_request.each_name_is_sought.Goals as goal

pub returns : goal.returns
returns c = each_name_has_request
