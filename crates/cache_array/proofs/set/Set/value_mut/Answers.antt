-- What is left in the slot is written there.
use Rattle.std.proofs.Common.{refl}
use Rattle.cache_array.specs.Set.{SetView}
use Rattle.cache_array.proofs.Loans.{left_there, value_there}
use Rattle.cache_array.proofs.set.Set.value_mut.Goals as goal

pub returns : goal.returns
returns g c =
    let inside : SetView _ = record { slots = c.self.inside.slots.items; ways = c.self.inside.ways } in
    let slot = c.index_mut-slot.result.now in (
      (
        refl,
        λ value.
            left_there inside c.args.self.now c.args.line c.args.way slot value c.self.view_is c.requires
            c.index_mut-slot.ensures.value,
      ),
      record {
        lends = record {};
        value =
            value_there inside c.args.self.now c.args.line c.args.way slot c.self.view_is c.requires
            c.index_mut-slot.ensures.value;
      },
    )
