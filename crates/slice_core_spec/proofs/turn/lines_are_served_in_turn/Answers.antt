use Rattle.slice_core_spec.proofs.TurnLaws.{passed-over}
use Rattle.slice_core_spec.proofs.turn.lines_are_served_in_turn.Goals as goal

pub returns : goal.returns
returns c local class old answers new place stands pass = passed-over local class old answers new place stands pass
