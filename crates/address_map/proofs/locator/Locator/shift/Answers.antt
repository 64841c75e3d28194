use Rattle.address_map.proofs.Located.{few-power}
use Rattle.address_map.proofs.locator.Locator.shift.Goals as goal

pub returns-clause-few : goal.returns-clause-few
returns-clause-few c = (few-power c.self.inside.slices c.self.invariant.few_slices).0

pub returns-clause-slices : goal.returns-clause-slices
returns-clause-slices c = rw (← c.self.view_is) (few-power c.self.inside.slices c.self.invariant.few_slices).1
