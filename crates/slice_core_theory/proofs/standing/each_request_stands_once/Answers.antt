use Rattle.slice_core_theory.proofs.Laws.{each_stands_once}
use Rattle.slice_core_theory.proofs.standing.each_request_stands_once.Goals as goal

pub returns : goal.returns
returns c = each_stands_once
