use Rattle.std.proofs.Common.{◌<◌, take, length, get_or, arith, refl}
use Rattle.std.proofs.lemmas.Grind.{take_at_read}
use Rattle.std.proofs.lemmas.Fn.{says_at}
use Rattle.std.specs.Fn.{FnReturnsAt}
use Rattle.cache_array.proofs.Slots.{asked_more}
use Rattle.cache_array.proofs.set.flags_of.Goals as goal

pub slots-preserved : goal.slots-preserved
slots-preserved g c =
    let slots = c.args.slots.now in
    let i = c.slots.i in
    let slot = get_or slots i c.index-slots-i.result in
    let within : i < length slots = omega arith in
    let more = (take_at_read slots i c.index-slots-i.result within).1 in
    let answer : FnReturnsAt g.F.Fn c.args.allowed slot.value c.allowed.result =
    says_at g.F.Fn c.allowed.ensures refl in (
      omega arith,
      rw (more, c.push.ensures.items)
          (asked_more _ (take i slots) c.slots.flags.items slot c.allowed.result c.slots.invariant.1 answer),
    )
